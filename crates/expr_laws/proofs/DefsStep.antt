-- One item more of a definition is one item more in its state, so a definition that ends is what was read.
use Rattle.std.proofs.Common.{◌≡◌, Bool, true, false, List, [], ◌∷◌, ◌++◌, Option, Some, None, refl, ap, sym, ◌∙◌, append_assoc, append-nil}
use Rattle.scan_tokens.specs.declared.roles.Bracket.{Bracket}
use Rattle.scan_tokens.specs.declared.roles.Bracket.TheVariants.{Curly}
use Rattle.scan_tokens.specs.declared.roles.Role.{Role}
use Rattle.scan_tokens.specs.declared.roles.Role.TheVariants.{Opens, Closes}
use Rattle.source_grammar.specs.Brackets.{Opened, role, matches, open_after, is_balanced}
use Rattle.source_grammar.specs.Definitions.{TypePart}
use Rattle.source_grammar.specs.Expressions.{ValueWord}
use Rattle.source_grammar.specs.Lexemes.{Place, Lexeme, at_sign, open_round, close_round, Id, QualId, qual_id_tokens}
use Rattle.parse_parts.proofs.Derived as types
use Rattle.expr_laws.proofs.DefsDerived.{Mark, Plain, mark, mark_token, Between, Tail, AtMods, AtAt, AtAnnotation, AtAnnotationDot, InArguments, AtAccess, AtAccessOpen, AtAccessName, AtValue, AtValueName, InValueType, InValue, AtDef, AtMethod, InTParams, InParams, InResult, InMethod, AtType, AtTypeName, InAlias, AtProcedure, Signature, Found, State, at, with_annotation, there, arguments_closed, in_arguments}
use Rattle.expr_laws.proofs.DefsSteps.{in_value, in_method, bound_type, par_type, stepped, within, paired, step, annotations_done, mods_done, tail_tokens, tail_items, items_in}
use Rattle.expr_laws.proofs.DefsSound.{mark-shown, Adds, adds-none, adds-some, adds-if, tail-adds, right-adds, mods-adds, path-adds, path-dot-adds, annotation-adds, access-adds, access-open-adds, access-name-adds, value-adds, value-name-adds, value-type-adds, type-adds, type-name-adds, alias-adds}
use Rattle.expr_laws.proofs.Derived as exprs
use Rattle.expr_laws.proofs.Derived.{Item, OneToken, BlockPair, CasesPair, EnumsPair, OtherPair}
use Rattle.expr_laws.proofs.AddingSteps.{step-adds as expr-adds}
use Rattle.expr_laws.proofs.Items.{tokens}
use Rattle.expr_laws.proofs.LastingFrames.{Stands}
use Rattle.expr_laws.proofs.MethodsSound.{tpar-step-adds, def-adds, method-adds, result-adds, procedure-adds}
use Rattle.expr_laws.proofs.Moving.{tokens-append}
use Rattle.expr_laws.proofs.ParamsSound.{par-step-adds}
use Rattle.expr_laws.proofs.Seen.{ClosesRound}

-- ---- arguments of annotations

-- no modifier stands before an annotation
abbrev pub is_annotation : Tail → Bool
is_annotation (AtAt sign) = true
is_annotation (AtAnnotation sign path) = true
is_annotation (AtAnnotationDot sign path p) = true
is_annotation (InArguments sign path o is ks) = true
is_annotation _ = false

abbrev pub Bare : State → Type 0
Bare s = is_annotation s.tail ≡ true → s.found.mods ≡ []

argument-adds : (found : Found) (sign : Place) (path : QualId) (o : Place) (is : List Item) (ks ls : List Opened) (i : Item)
    → Adds (there found (InArguments sign path o (is ++ i ∷ []) ls)) (items_in (at found (InArguments sign path o is ks))) i
argument-adds found sign path o is ks ls i =
    tail-adds found (InArguments sign path o is ks) (InArguments sign path o (is ++ i ∷ []) ls) i
    (sym (append_assoc (tokens (tail_tokens (InArguments sign path o is ks))) is (i ∷ [])))

closed-items : (found : Found) (sign : Place) (path : QualId) (o p : Place) (is : List Item) (ks : List Opened) → found.mods ≡ []
    → items_in (at (with_annotation found sign path (Between o is p)) AtMods) ≡ items_in (at found (InArguments sign path o is ks)) ++ OneToken (close_round p) ∷ []
closed-items found sign path o p is ks e =
    ap (λ ms. ((annotations_done found.annotations ++ OneToken (at_sign sign) ∷ (tokens (qual_id_tokens path) ++ OneToken (open_round o) ∷ (is ++ OneToken (close_round p) ∷ []))) ++ mods_done ms) ++ []) e
    ∙ go (annotations_done found.annotations) (tokens (qual_id_tokens path))
    ∙ ap (λ xs. ((annotations_done found.annotations ++ []) ++ ((OneToken (at_sign sign) ∷ xs) ++ is)) ++ OneToken (close_round p) ∷ []) (sym (tokens-append (qual_id_tokens path) (open_round o ∷ [])))
    ∙ ap (λ ms. ((annotations_done found.annotations ++ mods_done ms) ++ tail_items (InArguments sign path o is ks)) ++ OneToken (close_round p) ∷ []) (sym e)
  where
    go : (a b : List Item)
        → ((a ++ OneToken (at_sign sign) ∷ (b ++ OneToken (open_round o) ∷ (is ++ OneToken (close_round p) ∷ []))) ++ []) ++ []
        ≡ ((a ++ []) ++ ((OneToken (at_sign sign) ∷ (b ++ OneToken (open_round o) ∷ [])) ++ is)) ++ OneToken (close_round p) ∷ []
    go a b = simp (append_assoc, append-nil)

arguments-closed-adds : (found : Found) (sign : Place) (path : QualId) (o : Place) (is : List Item) (y : Mark) (b : Bracket) (x : Lexeme) (ks : List Opened) → found.mods ≡ [] → mark_token y ≡ x
    → Adds (arguments_closed found sign path o is y b x ks) (items_in (at found (InArguments sign path o is ks))) (OneToken x)
arguments-closed-adds found sign path o is y b x (k ∷ ks) m e = adds-if (matches b (k ∷ ks)) _ _ _ (λ h. argument-adds found sign path o is (k ∷ ks) ks (OneToken x))
arguments-closed-adds found sign path o is (Plain (ClosesRound p)) b x [] m e =
    adds-some _ _ _ (closed-items found sign path o p is [] m ∙ ap (λ z. items_in (at found (InArguments sign path o is [])) ++ OneToken z ∷ []) e)
arguments-closed-adds found sign path o is _ b x [] m e = adds-none _ _

in-arguments-adds : (found : Found) (sign : Place) (path : QualId) (o : Place) (is : List Item) (ks : List Opened) (y : Mark) (x : Lexeme) (r : Role) → found.mods ≡ [] → mark_token y ≡ x
    → Adds (in_arguments found sign path o is ks y x r) (items_in (at found (InArguments sign path o is ks))) (OneToken x)
in-arguments-adds found sign path o is ks y x (Opens Curly) m e = adds-none _ _
in-arguments-adds found sign path o is ks y x (Closes Curly) m e = adds-none _ _
in-arguments-adds found sign path o is ks y x (Closes b) m e = arguments-closed-adds found sign path o is y b x ks m e
in-arguments-adds found sign path o is ks y x _ m e = argument-adds found sign path o is ks (open_after x ks) (OneToken x)

-- ---- the machine

-- the state to the right of `=` is as `step-same` asks
abbrev pub RightStands : Tail → Type 0
RightStands (InValue w id type sign r) = Stands r
RightStands (InMethod m type sign r) = Stands r
RightStands _ = Unit {0}

value-right-adds : (found : Found) (w : ValueWord) (id : Id) (type : TypePart) (sign : Place) (s : exprs.State) (i : Item) (o : Option exprs.State) → Stands s → exprs.step s i ≡ o
    → Adds (in_value found w id type sign o) (items_in (at found (InValue w id type sign s))) i
value-right-adds found w id type sign s i None k f = adds-none _ _
value-right-adds found w id type sign s i (Some t) k f =
    right-adds found (InValue w id type sign s) (InValue w id type sign t) s t i refl refl refl (expr-adds s i k t f)

method-right-adds : (found : Found) (m : Signature) (type : TypePart) (sign : Place) (s : exprs.State) (i : Item) (o : Option exprs.State) → Stands s → exprs.step s i ≡ o
    → Adds (in_method found m type sign o) (items_in (at found (InMethod m type sign s))) i
method-right-adds found m type sign s i None k f = adds-none _ _
method-right-adds found m type sign s i (Some t) k f =
    right-adds found (InMethod m type sign s) (InMethod m type sign t) s t i refl refl refl (expr-adds s i k t f)

stepped-adds : (s : Tail) (found : Found) (y : Mark) (x : Lexeme) → (is_annotation s ≡ true → found.mods ≡ []) → RightStands s → mark_token y ≡ x
    → Adds (stepped s found y x) (items_in (at found s)) (OneToken x)
stepped-adds AtMods found y x b k e = mods-adds found y x.place.before x e
stepped-adds (AtAt sign) found y x b k e = path-adds found sign y x e
stepped-adds (AtAnnotation sign path) found y x b k e = annotation-adds found sign path y x.place.before x (b refl) e
stepped-adds (AtAnnotationDot sign path p) found y x b k e = path-dot-adds found sign path p y x e
stepped-adds (InArguments sign path o is ks) found y x b w e = in-arguments-adds found sign path o is ks y x (role x) (b refl) e
stepped-adds (AtAccess a p) found y x b k e = access-adds found a p y x.place.before x e
stepped-adds (AtAccessOpen a p o) found y x b k e = access-open-adds found a p o y x e
stepped-adds (AtAccessName a p q) found y x b k e = access-name-adds found a p q y x e
stepped-adds (AtValue w) found y x b k e = value-adds found w y x e
stepped-adds (AtValueName w id) found y x b k e = value-name-adds found w id y x e
stepped-adds (InValueType w id point t) found y x b k e = value-type-adds found w id point t (types.step t x) y x refl e
stepped-adds (InValue w id type sign r) found y x b k e = value-right-adds found w id type sign r (OneToken x) _ k refl
stepped-adds (AtDef p) found y x b k e = def-adds found p y x e
stepped-adds (AtMethod m) found y x b k e = method-adds found m y x e
stepped-adds (InTParams p id o done now) found y x b k e = tpar-step-adds found p id o done now y x (bound_type now x) refl e
stepped-adds (InParams m o done now) found y x b k e = par-step-adds found m o done now y x (par_type now x) refl e
stepped-adds (InResult m point t) found y x b k e = result-adds found m point t (types.step t x) y x refl e
stepped-adds (InMethod m type sign r) found y x b k e = method-right-adds found m type sign r (OneToken x) _ k refl
stepped-adds (AtType p) found y x b k e = type-adds found p y x e
stepped-adds (AtTypeName p id) found y x b k e = type-name-adds found p id y x e
stepped-adds (InAlias p id sign t) found y x b k e = alias-adds found p id sign t (types.step t x) x refl
stepped-adds (AtProcedure m o block k) found y x b w e = adds-none _ _

paired-adds : (s : Tail) (found : Found) (i : Item) → RightStands s → Adds (paired s found i) (items_in (at found s)) i
paired-adds (InArguments sign path o is ks) found i k = adds-if (is_balanced (within i)) _ _ _ (λ h. argument-adds found sign path o is ks ks i)
paired-adds (InValue w id type sign r) found i k = value-right-adds found w id type sign r i _ k refl
paired-adds (AtMethod m) found i k = procedure-adds found m i
paired-adds (InMethod m type sign r) found i k = method-right-adds found m type sign r i _ k refl
paired-adds _ found i k = adds-none _ _

pub step-adds : (s : State) (i : Item) (t : State) → Bare s → RightStands s.tail → step s i ≡ Some t → items_in t ≡ items_in s ++ i ∷ []
step-adds s (OneToken x) t b w e = stepped-adds s.tail s.found (mark x) x b w (mark-shown x) t e
step-adds s (BlockPair o block k) t b w e = paired-adds s.tail s.found (BlockPair o block k) w t e
step-adds s (CasesPair o cases k) t b w e = paired-adds s.tail s.found (CasesPair o cases k) w t e
step-adds s (EnumsPair o enums k) t b w e = paired-adds s.tail s.found (EnumsPair o enums k) w t e
step-adds s (OtherPair o xs k) t b w e = paired-adds s.tail s.found (OtherPair o xs k) w t e
