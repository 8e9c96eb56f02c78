-- The items of a statement as those of an import.
use Rattle.std.proofs.Common.{◌≡◌, Bool, true, false, ◌||◌, not, List, [], ◌∷◌, ◌++◌, map, Option, Some, None, refl, ap, sym, ◌∙◌, subst}
use Rattle.positioned_trees.specs.declared.details.Selector.{Selector}
use Rattle.source_grammar.specs.Definitions.{Behind, OnlyLastIsWild, ImpExpr, ImportName, ImportWild, ImportSels, Import, ProperImpExpr, ProperImpExprs, ProperImport}
use Rattle.source_grammar.specs.ExpressionRules.{Rule}
use Rattle.source_grammar.specs.ExpressionTokens.{block_tokens, cases_tokens, enums_tokens}
use Rattle.source_grammar.specs.Lexemes.{Place, Lexeme, comma, dot, underscore, id_token, qual_id_tokens}
use Rattle.expr_tails.specs.declared.items.Inside.{Inside}
use Rattle.expr_tails.specs.declared.items.Inside.TheVariants as inside
use Rattle.expr_tails.specs.Symbols.{symbol_of}
use Rattle.expr_laws.specs.Exactly.{picture}
use Rattle.expr_laws.specs.Imports.{SelList, sel_list_tokens, ImportItem, ImportToken, Selectors, NoSelectors, import_tokens_of, clause_items, others_items, import_items, import_picture, ReadImportItem, import_items_of}
use Rattle.expr_laws.specs.Items.{Item, OneToken, BlockPair, CasesPair, EnumsPair, OtherPair}
use Rattle.expr_laws.specs.Pictures.{item_shown, pair_shown, block_inside, cases_inside, enums_inside}
use Rattle.expr_laws.proofs.ImportsExact.{one-selectors}
use Rattle.expr_laws.proofs.Lasting.{and-left, and-right}
use Rattle.statement_laws.specs.Statements.{outline, import_outline, SelectorsAre, KnownSelectors, is_dot, ReadStatementItem, statement_items, dots_told}

-- ---- an item as one of an import

abbrev pair_read : (o : Place) (xs : List Lexeme) (k : Place) → Inside → (selectors : Option (List Selector)) (dotted : Bool) → SelectorsAre dotted xs selectors → ReadImportItem
pair_read o xs k w None dotted s = record { inside = w; item = NoSelectors o xs k; proper = tt }
pair_read o xs k w (Some selectors) dotted s = record { inside = w; item = Selectors o s.0.derivation.sel s.0.derivation.others k; proper = s.0.proper }

abbrev item_read : (item : Item) (selectors : Option (List Selector)) (dotted : Bool) → KnownSelectors dotted item selectors → ReadImportItem
item_read (OneToken x) selectors dotted s = record { inside = inside.Nothing; item = ImportToken x; proper = tt }
item_read (BlockPair o block k) selectors dotted s = pair_read o (block_tokens block) k (block_inside o block k) selectors dotted s
item_read (CasesPair o cases k) selectors dotted s = pair_read o (cases_tokens cases) k (cases_inside cases) selectors dotted s
item_read (EnumsPair o enums k) selectors dotted s = pair_read o (enums_tokens enums) k (enums_inside enums) selectors dotted s
item_read (OtherPair o xs k) selectors dotted s = pair_read o xs k inside.Nothing selectors dotted s

pair-picture : (o : Place) (xs : List Lexeme) (k : Place) (w : Inside) (selectors : Option (List Selector)) (dotted : Bool) (s : SelectorsAre dotted xs selectors)
    → import_picture (pair_read o xs k w selectors dotted s).inside (pair_read o xs k w selectors dotted s).item ≡ pair_shown selectors o k w
pair-picture o xs k w None dotted s = refl
pair-picture o xs k w (Some selectors) dotted s = ap (λ l. pair_shown (Some l) o k w) s.1

item-picture : (item : Item) (selectors : Option (List Selector)) (dotted : Bool) (s : KnownSelectors dotted item selectors)
    → import_picture (item_read item selectors dotted s).inside (item_read item selectors dotted s).item ≡ item_shown selectors item
item-picture (OneToken x) selectors dotted s = refl
item-picture (BlockPair o block k) selectors dotted s = pair-picture o (block_tokens block) k (block_inside o block k) selectors dotted s
item-picture (CasesPair o cases k) selectors dotted s = pair-picture o (cases_tokens cases) k (cases_inside cases) selectors dotted s
item-picture (EnumsPair o enums k) selectors dotted s = pair-picture o (enums_tokens enums) k (enums_inside enums) selectors dotted s
item-picture (OtherPair o xs k) selectors dotted s = pair-picture o xs k inside.Nothing selectors dotted s

pair-outline : (o : Place) (xs : List Lexeme) (k : Place) (w : Inside) (selectors : Option (List Selector)) (dotted : Bool) (s : SelectorsAre dotted xs selectors)
    → import_outline (pair_read o xs k w selectors dotted s).item ≡ OtherPair o xs k
pair-outline o xs k w None dotted s = refl
pair-outline o xs k w (Some selectors) dotted s = ap (λ ys. OtherPair o ys k) (sym s.0.tokens)

item-outline : (item : Item) (selectors : Option (List Selector)) (dotted : Bool) (s : KnownSelectors dotted item selectors)
    → import_outline (item_read item selectors dotted s).item ≡ outline item
item-outline (OneToken x) selectors dotted s = refl
item-outline (BlockPair o block k) selectors dotted s = pair-outline o (block_tokens block) k (block_inside o block k) selectors dotted s
item-outline (CasesPair o cases k) selectors dotted s = pair-outline o (cases_tokens cases) k (cases_inside cases) selectors dotted s
item-outline (EnumsPair o enums k) selectors dotted s = pair-outline o (enums_tokens enums) k (enums_inside enums) selectors dotted s
item-outline (OtherPair o xs k) selectors dotted s = pair-outline o xs k inside.Nothing selectors dotted s

-- ---- where selectors stand in an import

-- each behind a `.`, and nothing else in braces
abbrev pub SelsBehind : Bool → List ImportItem → Type 0
SelsBehind d [] = Unit {0}
SelsBehind d (ImportToken x ∷ is) = SelsBehind (is_dot (OneToken x)) is
SelsBehind d (Selectors o sel sels k ∷ is) = (d ≡ true) × OnlyLastIsWild sel sels × SelsBehind false is
SelsBehind d (NoSelectors o xs k ∷ is) = ⊥

path-behind : (xs : List Lexeme) (p : Place) (js ks : List ImportItem) (d : Bool) → SelsBehind true (js ++ ks) → SelsBehind d ((import_tokens_of xs ++ ImportToken (dot p) ∷ js) ++ ks)
unfolding symbol_of
path-behind [] p js ks d h = h
path-behind (x ∷ xs) p js ks d h = path-behind xs p js ks (is_dot (OneToken x)) h

clause-behind : (c : ImpExpr) (ks : List ImportItem) → ProperImpExpr c → ((d : Bool) → SelsBehind d ks) → (d : Bool) → SelsBehind d (clause_items c ++ ks)
clause-behind (ImportName path point id) ks p h d = path-behind (qual_id_tokens path) point (ImportToken (id_token id) ∷ []) ks d (h (is_dot (OneToken (id_token id))))
clause-behind (ImportWild path point wild) ks p h d = path-behind (qual_id_tokens path) point (ImportToken (underscore wild) ∷ []) ks d (h (is_dot (OneToken (underscore wild))))
clause-behind (ImportSels path point o sel sels k) ks p h d = path-behind (qual_id_tokens path) point (Selectors o sel sels k ∷ []) ks d (refl, p, h false)

others-behind : (bs : List (Behind ImpExpr)) → ProperImpExprs bs → (d : Bool) → SelsBehind d (others_items bs)
others-behind [] p d = tt
others-behind (b ∷ bs) p d = clause-behind b.item (others_items bs) p.0 (λ c. others-behind bs p.1 c) (is_dot (OneToken (comma b.comma)))

pub import-behind : (i : Import) → ProperImport i → (d : Bool) → SelsBehind d (import_items i)
import-behind i p d = clause-behind i.first (others_items i.others) p.0 (λ c. others-behind i.others p.1 c) d

-- ---- items with the outline of an import are its items

pub is-token : (item : Item) (x : Lexeme) → outline item ≡ OneToken x → item ≡ OneToken x
is-token (OneToken y) x e = e
is-token _ x e = cc

no-dot : (item : Item) (o : Place) (xs : List Lexeme) (k : Place) → outline item ≡ OtherPair o xs k → is_dot item ≡ false
no-dot (OneToken y) o xs k e = cc
no-dot _ o xs k e = refl

token-read : (item : Item) (selectors : Option (List Selector)) (dotted : Bool) (s : KnownSelectors dotted item selectors) (x : Lexeme) → outline item ≡ OneToken x
    → (item_read item selectors dotted s).item ≡ ImportToken x
token-read (OneToken y) selectors dotted s x e = (let same : y ≡ x = cc in ap ImportToken same)
token-read _ selectors dotted s x e = cc

pair-sels : (p : Place) (ys : List Lexeme) (l : Place) (w : Inside) (selectors : Option (List Selector)) (dotted : Bool) (s : SelectorsAre dotted ys selectors) (o : Place) (d : SelList) (k : Place)
    → OtherPair p ys l ≡ OtherPair o (sel_list_tokens d) k → dotted ≡ true → OnlyLastIsWild d.sel d.others → (pair_read p ys l w selectors dotted s).item ≡ Selectors o d.sel d.others k
pair-sels p ys l w None true s o d k e f wild = (let there : ys ≡ sel_list_tokens d = cc in absurd (s (record { derivation = d; proper = wild; tokens = there })))
pair-sels p ys l w None false s o d k e f wild = cc
pair-sels p ys l w (Some selectors) dotted s o d k e f wild =
    (let there : ys ≡ sel_list_tokens d = cc in
    let opens : p ≡ o = cc in
    let closes : l ≡ k = cc in
    ap (λ c. Selectors p c.sel c.others l) (one-selectors ys s.0 (record { derivation = d; proper = wild; tokens = there }))
    ∙ ap (λ q. Selectors q d.sel d.others l) opens ∙ ap (λ q. Selectors o d.sel d.others q) closes)

sels-read : (item : Item) (selectors : Option (List Selector)) (dotted : Bool) (s : KnownSelectors dotted item selectors) (o : Place) (d : SelList) (k : Place)
    → outline item ≡ OtherPair o (sel_list_tokens d) k → dotted ≡ true → OnlyLastIsWild d.sel d.others → (item_read item selectors dotted s).item ≡ Selectors o d.sel d.others k
sels-read (OneToken x) selectors dotted s o d k e f wild = cc
sels-read (BlockPair p block l) selectors dotted s o d k e f wild = pair-sels p (block_tokens block) l (block_inside p block l) selectors dotted s o d k e f wild
sels-read (CasesPair p cases l) selectors dotted s o d k e f wild = pair-sels p (cases_tokens cases) l (cases_inside cases) selectors dotted s o d k e f wild
sels-read (EnumsPair p enums l) selectors dotted s o d k e f wild = pair-sels p (enums_tokens enums) l (enums_inside enums) selectors dotted s o d k e f wild
sels-read (OtherPair p xs l) selectors dotted s o d k e f wild = pair-sels p xs l inside.Nothing selectors dotted s o d k e f wild

told : (d e : Bool) → (not d || e) ≡ true → d ≡ true → e ≡ true
told true e h f = h
told false e h f = cc

-- two lists from their first items on
pub record Heads (a b : Item) (is js : List Item) : Type 0 where
  pub head : a ≡ b
  pub tail : is ≡ js

pub heads : (a b : Item) (is js : List Item) → a ∷ is ≡ b ∷ js → Heads a b is js
heads a b is js e = record { head = cc; tail = cc }

module _ (rule : Rule) where
  abbrev pub to_import : ReadStatementItem rule → ReadImportItem
  to_import i = item_read i.item.given.item i.item.given.selectors i.dotted i.selectors

  pub picture-same : (i : ReadStatementItem rule) → import_picture (to_import i).inside (to_import i).item ≡ picture i.item.given
  picture-same i = item-picture i.item.given.item i.item.given.selectors i.dotted i.selectors

  pub head-outline : (i : ReadStatementItem rule) → outline i.item.given.item ≡ import_outline (to_import i).item
  head-outline i = sym (item-outline i.item.given.item i.item.given.selectors i.dotted i.selectors)

  pub outlines-same : (is : List (ReadStatementItem rule)) → map outline (statement_items rule is) ≡ map import_outline (import_items_of (map to_import is))
  outlines-same [] = refl
  outlines-same (i ∷ is) =
      ap (λ j. j ∷ map outline (statement_items rule is)) (head-outline i)
      ∙ ap (λ js. import_outline (to_import i).item ∷ js) (outlines-same is)

  pub matched : (is : List (ReadStatementItem rule)) (js : List ImportItem) (d : Bool) → map outline (statement_items rule is) ≡ map import_outline js → dots_told rule d is ≡ true → SelsBehind d js
      → import_items_of (map to_import is) ≡ js
  matched [] [] d e t s = refl
  matched [] (j ∷ js) d e t s = cc
  matched (i ∷ is) [] d e t s = cc
  matched (i ∷ is) (ImportToken x ∷ js) d e t s =
      let h = heads _ _ _ _ e in
      let item : i.item.given.item ≡ OneToken x = is-token i.item.given.item x h.head in
      ap (λ j. j ∷ import_items_of (map to_import is)) (token-read i.item.given.item i.item.given.selectors i.dotted i.selectors x h.head)
      ∙ ap (λ ks. ImportToken x ∷ ks) (matched is js (is_dot i.item.given.item) h.tail (and-right (not d || i.dotted) (dots_told rule (is_dot i.item.given.item) is) t) (subst (λ k. SelsBehind (is_dot k) js) (sym item) s))
  matched (i ∷ is) (Selectors o sel sels k ∷ js) d e t s =
      let h = heads _ _ _ _ e in
      ap (λ j. j ∷ import_items_of (map to_import is))
      (sels-read i.item.given.item i.item.given.selectors i.dotted i.selectors o (record { sel = sel; others = sels }) k h.head (told d i.dotted (and-left (not d || i.dotted) (dots_told rule (is_dot i.item.given.item) is) t) s.0) s.1)
      ∙ ap (λ ks. Selectors o sel sels k ∷ ks)
      (matched is js (is_dot i.item.given.item) h.tail (and-right (not d || i.dotted) (dots_told rule (is_dot i.item.given.item) is) t) (subst (λ b. SelsBehind b js) (sym (no-dot i.item.given.item o _ k h.head)) s.2))
  matched (i ∷ is) (NoSelectors o xs k ∷ js) d e t s = absurd s
