-- What was read is the items of the derivations in a state of the machine of definitions.
use Rattle.std.proofs.Common.{◌≡◌, Bool, true, false, if◌then◌else◌, List, [], ◌∷◌, ◌++◌, Option, Some, None, codes, refl, ap, sym, ◌∙◌, append_assoc, append-nil}
use Rattle.std.specs.Str.{bytes_eq}
use Rattle.std.proofs.lemmas.Slice.Eq.{bytes_eq-Decides}
use Rattle.scan_tokens.specs.declared.tokens.Newline.{Newline}
use Rattle.scan_tokens.specs.declared.tokens.TokenKind.{TokenKind}
use Rattle.scan_tokens.specs.declared.tokens.TokenKind.TheVariants as kind
use Rattle.scan_tokens.specs.Words.{Bytes}
use Rattle.source_grammar.specs.Definitions.{NoQualifier, Mod, NoType, OfType, mod_tokens}
use Rattle.source_grammar.specs.Expressions.{ValueWord, Val, Var}
use Rattle.source_grammar.specs.ExpressionTokens.{value_word_token}
use Rattle.source_grammar.specs.Lexemes.{Place, Lexeme, token_at, word_at, sign_at, at_sign, close_square, dot, colon, equals, Id, id_token, QualId, qual_id_tokens}
use Rattle.source_grammar.specs.Types.{WrittenType}
use Rattle.parse_parts.proofs.Derived as types
use Rattle.parse_parts.proofs.Sound as types_sound
use Rattle.parse_parts.proofs.Sound.{longer-tokens}
use Rattle.parse_patterns.specs.Steps.{is_no}
use Rattle.expr_tails.specs.declared.symbols.Word.{Word}
use Rattle.expr_tails.specs.declared.symbols.Word.TheVariants as word
use Rattle.expr_laws.proofs.DefsDerived.{Mark, AnAt, ALowerBound, AnUpperBound, Plain, is_sign, mark, mark_token, NoneRead, Access, PrivateWord, ProtectedWord, InQualifier, NamedIn, ThisIn, Tail, AtMods, AtAt, AtAnnotation, AtAnnotationDot, InArguments, AtAccess, AtAccessOpen, AtAccessName, AtValue, AtValueName, InValueType, InValue, AtDef, AtType, AtTypeName, InAlias, Found, State, at, with_mod, with_annotation, access_mod, qualifier_of, there, bridges, on_word, on_mod, at_mods, at_path, behind_path_dot, at_annotation, at_access, at_access_open, at_access_name}
use Rattle.expr_laws.proofs.DefsSteps.{right_side, at_value, at_value_name, typed_value, in_value_type, at_type, at_type_name, in_alias, annotations_done, mods_done, access_token, in_qualifier_tokens, tail_tokens, tail_rest, tail_items, found_items, items_in}
use Rattle.expr_laws.proofs.Derived as exprs
use Rattle.expr_laws.proofs.Derived.{Item, OneToken, is_nil, type_of}
use Rattle.expr_laws.proofs.Items.{tokens}
use Rattle.expr_laws.proofs.Moving.{tokens-append}
use Rattle.expr_laws.proofs.Read.{items_in as expr_items_in}
use Rattle.expr_laws.proofs.TypesRead.{typed-tokens}
use Rattle.expr_laws.proofs.Seen.{AnId, AColon, AnEquals, ADot, OpensRound, OpensSquare, ClosesSquare, AWord, token-shown}

-- ---- tokens

same-word : (a b : Bytes) → bytes_eq a b ≡ true → a ≡ b
same-word a b e = (bytes_eq-Decides a b).0 e

sign-is : (text : Bytes) (x : Lexeme) → is_sign text x ≡ true → sign_at text x.place ≡ x
sign-is text x e = go x.kind x.word x.place e where
  go : (k : TokenKind) (w : Bytes) (p : Place) → is_sign text (token_at k w p) ≡ true → sign_at text p ≡ token_at k w p
  go kind.Sign w p f = ap (λ v. token_at kind.Sign v p) (sym (same-word w text f))
  go _ w p f = cc

pick : (b : Bool) (m n : Mark) (x : Lexeme) → (b ≡ true → mark_token m ≡ x) → mark_token n ≡ x → mark_token (if b then m else n) ≡ x
pick true m n x taken left = taken refl
pick false m n x taken left = left

pub mark-shown : (x : Lexeme) → mark_token (mark x) ≡ x
mark-shown x =
    pick (is_sign (codes "@") x) (AnAt x.place) _ x (sign-is (codes "@") x)
    (pick (is_sign (codes ">:") x) (ALowerBound x.place) _ x (sign-is (codes ">:") x)
    (pick (is_sign (codes "<:") x) (AnUpperBound x.place) _ x (sign-is (codes "<:") x) (token-shown x)))

-- ---- one item more

-- the state that a step gives has this item behind the others
abbrev pub Adds : Option State → List Item → Item → Type 0
Adds o is i = (s : State) → o ≡ Some s → items_in s ≡ is ++ i ∷ []

pub adds-none : (is : List Item) (i : Item) → Adds None is i
adds-none is i s e = cc

pub adds-some : (s : State) (is : List Item) (i : Item) → items_in s ≡ is ++ i ∷ [] → Adds (Some s) is i
adds-some s is i h t e = (let same : s ≡ t = cc in ap items_in (sym same) ∙ h)

pub adds-if : (b : Bool) (o : Option State) (is : List Item) (i : Item) → (b ≡ true → Adds o is i) → Adds (if b then o else None) is i
adds-if true o is i h = h refl
adds-if false o is i h = adds-none is i

-- where the same items were read before
pub adds-as : (o : Option State) (is js : List Item) (i : Item) → is ≡ js → Adds o is i → Adds o js i
adds-as o is js i e h s f = h s f ∙ ap (λ ks. ks ++ i ∷ []) e

pub tail-adds : (found : Found) (old new : Tail) (i : Item) → tail_items new ≡ tail_items old ++ i ∷ [] → Adds (there found new) (items_in (at found old)) i
tail-adds found old new i e =
    adds-some _ _ _ (ap (λ is. found_items found ++ is) e ∙ sym (append_assoc (found_items found) (tail_items old) (i ∷ [])))

grown : (a b : List Lexeme) (x : Lexeme) → b ≡ a ++ x ∷ [] → tokens b ++ [] ≡ (tokens a ++ []) ++ OneToken x ∷ []
grown a b x e =
    ap (λ ys. tokens ys ++ []) e ∙ append-nil (tokens (a ++ x ∷ [])) ∙ tokens-append a (x ∷ []) ∙ ap (λ is. is ++ OneToken x ∷ []) (sym (append-nil (tokens a)))

-- a tail that has one token more
pub token-adds : (found : Found) (old new : Tail) (x y : Lexeme) → tail_rest old ≡ [] → tail_rest new ≡ [] → tail_tokens new ≡ tail_tokens old ++ x ∷ [] → x ≡ y
    → Adds (there found new) (items_in (at found old)) (OneToken y)
token-adds found old new x y r q e f =
    tail-adds found old new (OneToken y)
    (ap (λ is. tokens (tail_tokens new) ++ is) q ∙ grown (tail_tokens old) (tail_tokens new) x e ∙ ap (λ is. (tokens (tail_tokens old) ++ is) ++ OneToken x ∷ []) (sym r)
    ∙ ap (λ z. tail_items old ++ OneToken z ∷ []) f)

-- ---- modifiers

mod-adds : (found : Found) (m : Mod) (x y : Lexeme) → mods_done (m ∷ []) ≡ OneToken x ∷ [] → x ≡ y → Adds (there (with_mod found m) AtMods) (items_in (at found AtMods)) (OneToken y)
mod-adds found m x y e f =
    adds-some _ _ _ (ap (λ is. (annotations_done found.annotations ++ (mods_done found.mods ++ is)) ++ []) e
    ∙ ap (λ z. (annotations_done found.annotations ++ (mods_done found.mods ++ OneToken z ∷ [])) ++ []) f
    ∙ go (annotations_done found.annotations) (mods_done found.mods))
  where
    go : (a b : List Item) → (a ++ (b ++ OneToken y ∷ [])) ++ [] ≡ ((a ++ b) ++ []) ++ OneToken y ∷ []
    go a b = simp (append_assoc, append-nil)

word-adds : (found : Found) (w : Word) (p : Place) (x : Lexeme) → mark_token (Plain (AWord w p)) ≡ x → Adds (on_word found w p) (items_in (at found AtMods)) (OneToken x)
word-adds found word.Val p x e = token-adds found AtMods (AtValue (Val p)) _ x refl refl refl e
word-adds found word.Var p x e = token-adds found AtMods (AtValue (Var p)) _ x refl refl refl e
word-adds found word.Def p x e = token-adds found AtMods (AtDef p) _ x refl refl refl e
word-adds found word.Type p x e = token-adds found AtMods (AtType p) _ x refl refl refl e
word-adds found word.Private p x e = token-adds found AtMods (AtAccess PrivateWord p) _ x refl refl refl e
word-adds found word.Protected p x e = token-adds found AtMods (AtAccess ProtectedWord p) _ x refl refl refl e
word-adds found word.Abstract p x e = mod-adds found _ _ x refl e
word-adds found word.Final p x e = mod-adds found _ _ x refl e
word-adds found word.Sealed p x e = mod-adds found _ _ x refl e
word-adds found word.Lazy p x e = mod-adds found _ _ x refl e
word-adds found word.Override p x e = mod-adds found _ _ x refl e
word-adds found word.Case p x e = mod-adds found _ _ x refl e
word-adds found _ p x e = adds-none _ _

on-mod-adds : (found : Found) (y : Mark) (x : Lexeme) → mark_token y ≡ x → Adds (on_mod found y) (items_in (at found AtMods)) (OneToken x)
on-mod-adds found (AnAt p) x e = adds-if (is_nil found.mods) _ _ _ (λ h. token-adds found AtMods (AtAt p) _ x refl refl refl e)
on-mod-adds found (Plain (AWord w p)) x e = word-adds found w p x e
on-mod-adds found _ x e = adds-none _ _

pub mods-adds : (found : Found) (y : Mark) (n : Newline) (x : Lexeme) → mark_token y ≡ x → Adds (at_mods found y n) (items_in (at found AtMods)) (OneToken x)
mods-adds found y n x e = adds-if (bridges found.mods found.annotations n) _ _ _ (λ h. on-mod-adds found y x e)

pub path-adds : (found : Found) (sign : Place) (y : Mark) (x : Lexeme) → mark_token y ≡ x → Adds (at_path found sign y) (items_in (at found (AtAt sign))) (OneToken x)
path-adds found sign (Plain (AnId id)) x e = token-adds found (AtAt sign) (AtAnnotation sign (record { first = id; steps = [] })) (id_token id) x refl refl refl e
path-adds found sign _ x e = adds-none _ _

pub path-dot-adds : (found : Found) (sign : Place) (path : QualId) (p : Place) (y : Mark) (x : Lexeme) → mark_token y ≡ x
    → Adds (behind_path_dot found sign path p y) (items_in (at found (AtAnnotationDot sign path p))) (OneToken x)
path-dot-adds found sign path p (Plain (AnId id)) x e =
    token-adds found (AtAnnotationDot sign path p) (AtAnnotation sign (types.longer path p id)) (id_token id) x refl refl (ap (λ xs. at_sign sign ∷ xs) (longer-tokens path p id)) e
path-dot-adds found sign path p _ x e = adds-none _ _

-- an annotation without arguments, where no modifier stands before it
alone-items : (found : Found) (sign : Place) (path : QualId) → found.mods ≡ [] → items_in (at (with_annotation found sign path NoneRead) AtMods) ≡ items_in (at found (AtAnnotation sign path))
alone-items found sign path e =
    ap (λ ms. ((annotations_done found.annotations ++ OneToken (at_sign sign) ∷ (tokens (qual_id_tokens path) ++ [])) ++ mods_done ms) ++ []) e
    ∙ go (annotations_done found.annotations) (tokens (qual_id_tokens path))
    ∙ ap (λ ms. (annotations_done found.annotations ++ mods_done ms) ++ ((OneToken (at_sign sign) ∷ tokens (qual_id_tokens path)) ++ [])) (sym e)
  where
    go : (a b : List Item) → ((a ++ OneToken (at_sign sign) ∷ (b ++ [])) ++ []) ++ [] ≡ (a ++ []) ++ ((OneToken (at_sign sign) ∷ b) ++ [])
    go a b = simp (append_assoc, append-nil)

pub annotation-adds : (found : Found) (sign : Place) (path : QualId) (y : Mark) (n : Newline) (x : Lexeme) → found.mods ≡ [] → mark_token y ≡ x
    → Adds (at_annotation found sign path y n) (items_in (at found (AtAnnotation sign path))) (OneToken x)
annotation-adds found sign path (Plain (ADot p)) n x m e = token-adds found (AtAnnotation sign path) (AtAnnotationDot sign path p) (dot p) x refl refl refl e
annotation-adds found sign path (Plain (OpensRound p)) n x m e =
    adds-if (is_no n) _ _ _ (λ h. token-adds found (AtAnnotation sign path) (InArguments sign path p [] []) _ x refl refl refl e)
annotation-adds found sign path y n x m e = adds-as _ _ _ _ (alone-items found sign path m) (mods-adds (with_annotation found sign path NoneRead) y n x e)

pub access-name-adds : (found : Found) (a : Access) (p : Place) (q : InQualifier) (y : Mark) (x : Lexeme) → mark_token y ≡ x
    → Adds (at_access_name found a p q y) (items_in (at found (AtAccessName a p q))) (OneToken x)
access-name-adds found a p q (Plain (ClosesSquare k)) x e =
    adds-some _ _ _ (ap (λ xs. (annotations_done found.annotations ++ (mods_done found.mods ++ tokens xs)) ++ []) (qualified a q k)
    ∙ ap (λ is. (annotations_done found.annotations ++ (mods_done found.mods ++ is)) ++ []) (tokens-append (access_token a p ∷ in_qualifier_tokens q) (close_square k ∷ []))
    ∙ ap (λ z. (annotations_done found.annotations ++ (mods_done found.mods ++ (tokens (access_token a p ∷ in_qualifier_tokens q) ++ OneToken z ∷ []))) ++ []) e
    ∙ go (annotations_done found.annotations) (mods_done found.mods) (tokens (access_token a p ∷ in_qualifier_tokens q)))
  where
    qualified : (b : Access) (r : InQualifier) (k : Place) → mod_tokens (access_mod b p (qualifier_of r k)) ≡ (access_token b p ∷ in_qualifier_tokens r) ++ close_square k ∷ []
    qualified PrivateWord (NamedIn o id) k = refl
    qualified PrivateWord (ThisIn o word) k = refl
    qualified ProtectedWord (NamedIn o id) k = refl
    qualified ProtectedWord (ThisIn o word) k = refl

    go : (a b c : List Item) → (a ++ (b ++ (c ++ OneToken x ∷ []))) ++ [] ≡ ((a ++ b) ++ (c ++ [])) ++ OneToken x ∷ []
    go a b c = simp (append_assoc, append-nil)
access-name-adds found a p q _ x e = adds-none _ _

-- a word of access without brackets
access-items : (found : Found) (a : Access) (p : Place) → items_in (at (with_mod found (access_mod a p NoQualifier)) AtMods) ≡ items_in (at found (AtAccess a p))
access-items found PrivateWord p = go (annotations_done found.annotations) (mods_done found.mods) where
  go : (a b : List Item) → (a ++ (b ++ OneToken (word_at (codes "private") p) ∷ [])) ++ [] ≡ (a ++ b) ++ OneToken (word_at (codes "private") p) ∷ []
  go a b = simp (append_assoc, append-nil)
access-items found ProtectedWord p = go (annotations_done found.annotations) (mods_done found.mods) where
  go : (a b : List Item) → (a ++ (b ++ OneToken (word_at (codes "protected") p) ∷ [])) ++ [] ≡ (a ++ b) ++ OneToken (word_at (codes "protected") p) ∷ []
  go a b = simp (append_assoc, append-nil)

pub access-adds : (found : Found) (a : Access) (p : Place) (y : Mark) (n : Newline) (x : Lexeme) → mark_token y ≡ x → Adds (at_access found a p y n) (items_in (at found (AtAccess a p))) (OneToken x)
access-adds found a p (Plain (OpensSquare q)) n x e = token-adds found (AtAccess a p) (AtAccessOpen a p q) _ x refl refl refl e
access-adds found a p y n x e = adds-as _ _ _ _ (access-items found a p) (mods-adds (with_mod found (access_mod a p NoQualifier)) y n x e)

pub access-open-adds : (found : Found) (a : Access) (p o : Place) (y : Mark) (x : Lexeme) → mark_token y ≡ x → Adds (at_access_open found a p o y) (items_in (at found (AtAccessOpen a p o))) (OneToken x)
access-open-adds found a p o (Plain (AnId id)) x e = token-adds found (AtAccessOpen a p o) (AtAccessName a p (NamedIn o id)) _ x refl refl refl e
access-open-adds found a p o (Plain (AWord word.This q)) x e = token-adds found (AtAccessOpen a p o) (AtAccessName a p (ThisIn o q)) _ x refl refl refl e
access-open-adds found a p o _ x e = adds-none _ _

-- ---- values and aliases

pub value-adds : (found : Found) (w : ValueWord) (y : Mark) (x : Lexeme) → mark_token y ≡ x → Adds (at_value found w y) (items_in (at found (AtValue w))) (OneToken x)
value-adds found w (Plain (AnId id)) x e = token-adds found (AtValue w) (AtValueName w id) _ x refl refl refl e
value-adds found w _ x e = adds-none _ _

pub value-name-adds : (found : Found) (w : ValueWord) (id : Id) (y : Mark) (x : Lexeme) → mark_token y ≡ x → Adds (at_value_name found w id y) (items_in (at found (AtValueName w id))) (OneToken x)
value-name-adds found w id (Plain (AColon p)) x e = token-adds found (AtValueName w id) (InValueType w id p exprs.type_begun) _ x refl refl refl e
value-name-adds found w id (Plain (AnEquals p)) x e = token-adds found (AtValueName w id) (InValue w id NoType p right_side) _ x refl refl refl e
value-name-adds found w id _ x e = adds-none _ _

typed-value-adds : (found : Found) (w : ValueWord) (id : Id) (point : Place) (t : types.State) (o : Option WrittenType) (y : Mark) (x : Lexeme) → type_of t ≡ o → mark_token y ≡ x
    → Adds (typed_value found w id point o y) (items_in (at found (InValueType w id point t))) (OneToken x)
typed-value-adds found w id point t None y x f e = adds-none _ _
typed-value-adds found w id point t (Some type) (Plain (AnEquals p)) x f e =
    token-adds found (InValueType w id point t) (InValue w id (OfType point type) p right_side) _ x refl refl (ap (λ xs. value_word_token w ∷ id_token id ∷ colon point ∷ (xs ++ equals p ∷ [])) (typed-tokens t type f)) e
typed-value-adds found w id point t (Some type) _ x f e = adds-none _ _

pub value-type-adds : (found : Found) (w : ValueWord) (id : Id) (point : Place) (t : types.State) (o : Option types.State) (y : Mark) (x : Lexeme) → types.step t x ≡ o → mark_token y ≡ x
    → Adds (in_value_type found w id point t o y) (items_in (at found (InValueType w id point t))) (OneToken x)
value-type-adds found w id point t (Some u) y x f e =
    token-adds found (InValueType w id point t) (InValueType w id point u) x x refl refl (ap (λ xs. value_word_token w ∷ id_token id ∷ colon point ∷ xs) (types_sound.step-adds t x u f)) refl
value-type-adds found w id point t None y x f e = typed-value-adds found w id point t (type_of t) y x refl e

pub type-adds : (found : Found) (p : Place) (y : Mark) (x : Lexeme) → mark_token y ≡ x → Adds (at_type found p y) (items_in (at found (AtType p))) (OneToken x)
type-adds found p (Plain (AnId id)) x e = adds-if (is_no id.place.before) _ _ _ (λ h. token-adds found (AtType p) (AtTypeName p id) _ x refl refl refl e)
type-adds found p _ x e = adds-none _ _

pub type-name-adds : (found : Found) (p : Place) (id : Id) (y : Mark) (x : Lexeme) → mark_token y ≡ x → Adds (at_type_name found p id y) (items_in (at found (AtTypeName p id))) (OneToken x)
type-name-adds found p id (Plain (AnEquals q)) x e = token-adds found (AtTypeName p id) (InAlias p id q exprs.type_begun) _ x refl refl refl e
type-name-adds found p id _ x e = adds-none _ _

pub alias-adds : (found : Found) (p : Place) (id : Id) (sign : Place) (t : types.State) (o : Option types.State) (x : Lexeme) → types.step t x ≡ o
    → Adds (in_alias found p id sign o) (items_in (at found (InAlias p id sign t))) (OneToken x)
alias-adds found p id sign t None x f = adds-none _ _
alias-adds found p id sign t (Some u) x f =
    token-adds found (InAlias p id sign t) (InAlias p id sign u) x x refl refl (ap (λ xs. word_at (codes "type") p ∷ id_token id ∷ equals sign ∷ xs) (types_sound.step-adds t x u f)) refl

-- a right side that has one item more
pub right-adds : (found : Found) (old new : Tail) (r q : exprs.State) (i : Item) → tail_tokens new ≡ tail_tokens old → tail_rest old ≡ expr_items_in r → tail_rest new ≡ expr_items_in q
    → expr_items_in q ≡ expr_items_in r ++ i ∷ [] → Adds (there found new) (items_in (at found old)) i
right-adds found old new r q i e f g h =
    tail-adds found old new i
    (ap (λ xs. tokens xs ++ tail_rest new) e ∙ ap (λ is. tokens (tail_tokens old) ++ is) (g ∙ h ∙ ap (λ is. is ++ i ∷ []) (sym f))
    ∙ sym (append_assoc (tokens (tail_tokens old)) (tail_rest old) (i ∷ [])))
