-- Items with which a statement ends: they are of one level, and say that a `.` stands before them, which asks most.
use Rattle.std.proofs.Common.{◌≡◌, Bool, true, false, ◌||◌, not, if◌then◌else◌, List, [], ◌∷◌, ◌++◌, map, None, refl, ap, ◌∙◌}
use Rattle.scan_tokens.specs.declared.tokens.TokenKind.{TokenKind}
use Rattle.scan_tokens.specs.declared.tokens.TokenKind.TheVariants as kind
use Rattle.source_grammar.specs.Definitions.{Sel, SelName, SelRenamed, SelHidden, SelWild}
use Rattle.source_grammar.specs.Expressions.{WithinExpr}
use Rattle.source_grammar.specs.ExpressionRules.{Rule}
use Rattle.source_grammar.specs.ExpressionTokens.{cases_tokens}
use Rattle.source_grammar.specs.Lexemes.{Lexeme, Id}
use Rattle.parse_patterns.proofs.Sides.{and-true}
use Rattle.expr_laws.specs.Definitions.{def_items_of}
use Rattle.expr_laws.specs.Exactly as exactly
use Rattle.expr_laws.specs.Imports.{SelList, sel_list_tokens, AreSelectors, import_items_of}
use Rattle.expr_laws.specs.Items.{OneToken, items_tokens}
use Rattle.expr_laws.proofs.DefsAlive.{DefFiller, Filled, filler_item}
use Rattle.expr_laws.proofs.DefsExact as defs
use Rattle.expr_laws.proofs.DefsExact.{level-filler, proper-filler}
use Rattle.expr_laws.proofs.Exactness as exprs
use Rattle.expr_laws.proofs.Fillers.{Filler, One, SomeCases, some_cases}
use Rattle.expr_laws.proofs.ImportsExact.{AllLevel, given}
use Rattle.expr_laws.proofs.Lasting.{and-left, and-right}
use Rattle.statement_laws.specs.Statements.{KnownSelectors, import_outline, outline, is_dot, ReadStatementItem, statement_items, dots_told}
use Rattle.statement_laws.proofs.ImportItems.{to_import, head-outline}
use Rattle.statement_laws.proofs.Lines.{to_expr}

-- ---- cases are no selectors

abbrev is_word_kind : TokenKind → Bool
is_word_kind kind.Word = true
is_word_kind _ = false

abbrev begins_with_word : List Lexeme → Bool
begins_with_word [] = false
begins_with_word (x ∷ xs) = is_word_kind x.kind

id-no-word : (id : Id) → is_word_kind (if id.quoted then kind.BackId else kind.Id) ≡ false
id-no-word id = go id.quoted where
  go : (q : Bool) → is_word_kind (if q then kind.BackId else kind.Id) ≡ false
  go true = refl
  go false = refl

sels-no-word : (d : SelList) → begins_with_word (sel_list_tokens d) ≡ false
sels-no-word d = go d.sel where
  go : (s : Sel) → begins_with_word (sel_list_tokens (record { sel = s; others = d.others })) ≡ false
  go (SelName id) = id-no-word id
  go (SelRenamed id arrow shown) = id-no-word id
  go (SelHidden id arrow wild) = id-no-word id
  go (SelWild wild) = refl

cases-no-selectors : AreSelectors (cases_tokens some_cases) → ⊥
cases-no-selectors a = (let no : true ≡ false = ap begins_with_word a.tokens ∙ sels-no-word a.derivation in cc)

pub filler-known : (f : DefFiller) → KnownSelectors true (filler_item f) None
filler-known (Filled SomeCases) = cases-no-selectors
filler-known (Filled (One m)) = tt
filler-known _ = tt

abbrev pub all_filled : List Filler → List DefFiller
all_filled [] = []
all_filled (f ∷ fs) = Filled f ∷ all_filled fs

-- ---- what is added tells of dots

or-true : (b : Bool) → (b || true) ≡ true
or-true true = refl
or-true false = refl

module _ (rule : Rule) where
  pub dots-more : (is js : List (ReadStatementItem rule)) (d : Bool) → dots_told rule d is ≡ true → ((e : Bool) → dots_told rule e js ≡ true) → dots_told rule d (is ++ js) ≡ true
  dots-more [] js d t h = h d
  dots-more (i ∷ is) js d t h =
      and-true (not d || i.dotted) (dots_told rule (is_dot i.item.given.item) (is ++ js)) (and-left (not d || i.dotted) (dots_told rule (is_dot i.item.given.item) is) t)
      (dots-more is js (is_dot i.item.given.item) (and-right (not d || i.dotted) (dots_told rule (is_dot i.item.given.item) is) t) h)

  pub items-more : (is js : List (ReadStatementItem rule)) → statement_items rule (is ++ js) ≡ statement_items rule is ++ statement_items rule js
  items-more [] js = refl
  items-more (i ∷ is) js = ap (λ ks. i.item.given.item ∷ ks) (items-more is js)

  module _ (empty : rule WithinExpr false [] []) where
    abbrev pub fillers : List DefFiller → List (ReadStatementItem rule)
    fillers [] = []
    fillers (f ∷ fs) =
        record {
          item = record { given = record { selectors = None; item = filler_item f }; proper = proper-filler rule empty f; level = level-filler f };
          dotted = true;
          selectors = filler-known f;
        } ∷ fillers fs

    pub fillers-told : (fs : List DefFiller) (d : Bool) → dots_told rule d (fillers fs) ≡ true
    fillers-told [] d = refl
    fillers-told (f ∷ fs) d = and-true (not d || true) (dots_told rule (is_dot (filler_item f)) (fillers fs)) (or-true (not d)) (fillers-told fs (is_dot (filler_item f)))

    def-fillers : (fs : List DefFiller) → def_items_of rule (defs.others rule empty fs) ≡ statement_items rule (fillers fs)
    def-fillers [] = refl
    def-fillers (f ∷ fs) = ap (λ js. filler_item f ∷ js) (def-fillers fs)

    pub def-more : (is : List (ReadStatementItem rule)) (fs : List DefFiller) → def_items_of rule (map (λ i. i.item) is ++ defs.others rule empty fs) ≡ statement_items rule (is ++ fillers fs)
    def-more [] fs = def-fillers fs
    def-more (i ∷ is) fs = ap (λ js. i.item.given.item ∷ js) (def-more is fs)

    expr-fillers : (fs : List Filler) → exactly.items_of rule (exprs.others rule empty fs) ≡ statement_items rule (fillers (all_filled fs))
    expr-fillers [] = refl
    expr-fillers (f ∷ fs) = ap (λ js. filler_item (Filled f) ∷ js) (expr-fillers fs)

    pub expr-more : (is : List (ReadStatementItem rule)) (fs : List Filler) → exactly.items_of rule (map (to_expr rule) is ++ exprs.others rule empty fs) ≡ statement_items rule (is ++ fillers (all_filled fs))
    expr-more [] fs = expr-fillers fs
    expr-more (i ∷ is) fs = ap (λ js. i.item.given.item ∷ js) (expr-more is fs)

  -- ---- tokens

  abbrev pub token_items : (xs : List Lexeme) → AllLevel xs → List (ReadStatementItem rule)
  token_items [] l = []
  token_items (x ∷ xs) l =
      record { item = record { given = record { selectors = None; item = OneToken x }; proper = tt; level = l.0 }; dotted = true; selectors = tt } ∷ token_items xs l.1

  pub tokens-told : (xs : List Lexeme) (l : AllLevel xs) (d : Bool) → dots_told rule d (token_items xs l) ≡ true
  tokens-told [] l d = refl
  tokens-told (x ∷ xs) l d = and-true (not d || true) (dots_told rule (is_dot (OneToken x)) (token_items xs l.1)) (or-true (not d)) (tokens-told xs l.1 (is_dot (OneToken x)))

  pub token-tokens : (xs : List Lexeme) (l : AllLevel xs) → items_tokens (statement_items rule (token_items xs l)) ≡ xs
  token-tokens [] l = refl
  token-tokens (x ∷ xs) l = ap (λ ys. x ∷ ys) (token-tokens xs l.1)

  tokens-outline : (xs : List Lexeme) (l : AllLevel xs) → map outline (statement_items rule (token_items xs l)) ≡ map import_outline (import_items_of (given xs))
  tokens-outline [] l = refl
  tokens-outline (x ∷ xs) l = ap (λ js. OneToken x ∷ js) (tokens-outline xs l.1)

  pub import-more : (is : List (ReadStatementItem rule)) (xs : List Lexeme) (l : AllLevel xs)
      → map outline (statement_items rule (is ++ token_items xs l)) ≡ map import_outline (import_items_of (map (to_import rule) is ++ given xs))
  import-more [] xs l = tokens-outline xs l
  import-more (i ∷ is) xs l =
      ap (λ j. j ∷ map outline (statement_items rule (is ++ token_items xs l))) (head-outline rule i) ∙ ap (λ js. import_outline (to_import rule i).item ∷ js) (import-more is xs l)
