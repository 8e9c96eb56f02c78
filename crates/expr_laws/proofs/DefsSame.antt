-- A token more of modifiers and of the heads of values, methods and aliases: the reader of definitions does with it what the machine does.
use Rattle.std.proofs.Common.{◌≡◌, Bool, true, false, if◌then◌else◌, not, List, [], ◌∷◌, ◌++◌, Option, Some, None, option_map, refl, ap, sym, ◌∙◌, append-nil}
use Rattle.std.specs.Prelude.{◌&&◌}
use Rattle.positioned_trees.specs.declared.details.Access.{Access}
use Rattle.scan_tokens.specs.declared.roles.Bracket.{Bracket}
use Rattle.scan_tokens.specs.declared.roles.Bracket.TheVariants.{Round, Square, Curly}
use Rattle.scan_tokens.specs.declared.roles.Role.{Role}
use Rattle.scan_tokens.specs.declared.roles.Role.TheVariants.{Opens, Closes}
use Rattle.scan_tokens.specs.declared.tokens.Newline.{Newline}
use Rattle.scan_tokens.specs.Newlines.{same_bracket}
use Rattle.source_grammar.specs.Brackets.{Opened, role, matches, opened_after}
use Rattle.source_grammar.specs.Definitions.{Mod, Private, Protected, NoQualifier, AccessQualifier, NoType, NoTParams, TParamsOf, TParams, ParList}
use Rattle.source_grammar.specs.DefinitionTrees.{qualified}
use Rattle.source_grammar.specs.Expressions.{ValueWord}
use Rattle.source_grammar.specs.Lexemes.{Lexeme, Place, Id, QualId}
use Rattle.source_grammar.specs.Newlines.{is_near}
use Rattle.source_grammar.specs.Types.{WrittenType, type_tree}
use Rattle.parse_parts.proofs.Derived as types
use Rattle.parse_parts.proofs.Kept.{kept, kept_all, joined-kept}
use Rattle.parse_parts.proofs.Shown as type_shown
use Rattle.parse_parts.specs.Built.{joined}
use Rattle.parse_parts.specs.declared.built.Kids.{Kids}
use Rattle.parse_parts.specs.declared.states.State.{State as TypeState}
use Rattle.parse_patterns.proofs.Derived.{when}
use Rattle.parse_patterns.specs.Steps.{is_no}
use Rattle.tree_lower.specs.Keeping.{name_of}
use Rattle.expr_steps.specs.Steps.{type_on}
use Rattle.expr_tails.specs.declared.symbols.Symbol.{Symbol}
use Rattle.expr_tails.specs.declared.symbols.Symbol.TheVariants as symbol
use Rattle.expr_tails.specs.declared.symbols.Word.{Word}
use Rattle.expr_tails.specs.declared.symbols.Word.TheVariants as word
use Rattle.expr_tails.specs.Types.{is_type, type_of as tall_of}
use Rattle.def_steps.specs.declared.states.Found.{Found}
use Rattle.def_steps.specs.declared.states.Gap.TheVariants as gap
use Rattle.def_steps.specs.declared.states.ParamTail.TheVariants as param_tail
use Rattle.def_steps.specs.declared.states.State.{State}
use Rattle.def_steps.specs.declared.states.Tail.TheVariants as tail
use Rattle.def_steps.specs.declared.states.TypeParamTail.TheVariants as type_tail
use Rattle.def_steps.specs.Heads as heads
use Rattle.def_steps.specs.Modifiers as modifiers
use Rattle.expr_laws.proofs.Agreeing.{type-whole}
use Rattle.expr_laws.proofs.DefsDerived as derived
use Rattle.expr_laws.proofs.DefsDerived.{Mark, there}
use Rattle.expr_laws.proofs.DefsShown.{access_of, mod_shown, mods_shown, gap_of, limited, bracket_of, brackets_shown, is_var, word_start, value_shown, signature_trees, method_with, method_shown, pars_method, shown}
use Rattle.expr_laws.proofs.DefsGood.{is_curly, NoneCurly}
use Rattle.expr_laws.proofs.DefsSteps as steps
use Rattle.expr_laws.proofs.DefsTokens.{marked_as, bracket_role, role_as_bracket, is_curly_symbol}
use Rattle.expr_laws.proofs.DefsSteps.{is_fresh}
use Rattle.expr_laws.proofs.Derived as exprs
use Rattle.expr_laws.proofs.Derived.{type_of, is_nil}
use Rattle.expr_laws.proofs.Inside.{any-type}
use Rattle.expr_laws.proofs.Innermost.{type-read-shown}
use Rattle.expr_laws.proofs.Shown as expr_shown

-- the reader comes to the picture of where the machine comes
abbrev pub Same : Option State → Option derived.State → Type 0
Same a b = a ≡ option_map shown b

pub same-if : (b : Bool) (o : Option State) (p : Option derived.State) → Same o p → Same (if b then o else None) (if b then p else None)
same-if true o p e = e
same-if false o p e = refl

-- ---- modifiers

pub bridges-shown : (ms : List Mod) (done : List derived.ReadAnnotation) (before : Newline) → modifiers.bridges (gap_of ms done) before ≡ derived.bridges ms done before
bridges-shown [] [] before = refl
bridges-shown [] (a ∷ done) before = refl
bridges-shown (m ∷ ms) done before = refl

some-access : (f : Found) (a : Access) → (f.has_access ≡ true → f.any ≡ true) → (modifiers.with_access f a).any ≡ true
some-access f a on = go f.has_access refl where
  go : (b : Bool) → f.has_access ≡ b → (if b then f else record f { modifiers = record f.modifiers { access = a }; has_access = true; any = true }).any ≡ true
  go true e = on e
  go false e = refl

-- a modifier of access is one
any-access : (ms : List Mod) → (mods_shown ms).has_access ≡ true → (mods_shown ms).any ≡ true
any-access [] e = cc
any-access (Private p q ∷ ms) e = some-access (mods_shown ms) _ (any-access ms)
any-access (Protected p q ∷ ms) e = some-access (mods_shown ms) _ (any-access ms)
any-access (_ ∷ ms) e = refl

some-any : (ms : List Mod) → (mods_shown ms).any ≡ not (is_nil ms)
some-any [] = refl
some-any (Private p q ∷ ms) = some-access (mods_shown ms) _ (any-access ms)
some-any (Protected p q ∷ ms) = some-access (mods_shown ms) _ (any-access ms)
some-any (_ ∷ ms) = refl

on-word-same : (found : derived.Found) (w : Word) (p : Place) → Same (modifiers.on_word (mods_shown found.mods) w p.span.start) (derived.on_word found w p)
on-word-same found word.Val p = refl
on-word-same found _ p = refl

at-same : (found : derived.Found) (p : Place) → Same (if (mods_shown found.mods).any then None else modifiers.state (mods_shown found.mods) tail.AtAt) (if is_nil found.mods then there found (derived.AtAt p) else None)
at-same found p = ap (λ b. if b then None else modifiers.state (mods_shown found.mods) tail.AtAt) (some-any found.mods) ∙ go (is_nil found.mods) where
  go : (b : Bool) → Same (if not b then None else modifiers.state (mods_shown found.mods) tail.AtAt) (if b then there found (derived.AtAt p) else None)
  go true = refl
  go false = refl

on-mod-same : (found : derived.Found) (y : Symbol) (x : Lexeme) → Same (modifiers.on_mod (mods_shown found.mods) y x.place.span.start) (derived.on_mod found (marked_as y x))
on-mod-same found symbol.At x = at-same found x.place
on-mod-same found (symbol.Word w) x = on-word-same found w x.place
on-mod-same found _ x = refl

pub mods-same : (found : derived.Found) (y : Symbol) (x : Lexeme)
    → Same (modifiers.at_mods (mods_shown found.mods) (gap_of found.mods found.annotations) y x.place.span.start x.place.before) (derived.at_mods found (marked_as y x) x.place.before)
mods-same found y x =
    ap (λ b. if b then modifiers.on_mod (mods_shown found.mods) y x.place.span.start else None) (bridges-shown found.mods found.annotations x.place.before)
    ∙ same-if (derived.bridges found.mods found.annotations x.place.before) _ _ (on-mod-same found y x)

-- ---- annotations

pub path-same : (found : derived.Found) (sign : Place) (y : Symbol) (x : Lexeme) → Same (modifiers.at_path (mods_shown found.mods) y) (derived.at_path found sign (marked_as y x))
path-same found sign symbol.Id x = refl
path-same found sign _ x = refl

pub path-dot-same : (found : derived.Found) (sign : Place) (path : QualId) (p : Place) (y : Symbol) (x : Lexeme) → Same (modifiers.at_path (mods_shown found.mods) y) (derived.behind_path_dot found sign path p (marked_as y x))
path-dot-same found sign path p symbol.Id x = refl
path-dot-same found sign path p _ x = refl

-- behind an annotation, before which no modifier stands
behind-annotation : (found : derived.Found) (a : derived.ReadArguments) (sign : Place) (path : QualId) → found.mods ≡ [] → gap.Near ≡ gap_of found.mods (derived.with_annotation found sign path a).annotations
behind-annotation found a sign path e = ap (λ ms. gap_of ms (derived.with_annotation found sign path a).annotations) (sym e)

annotated-same : (found : derived.Found) (sign : Place) (path : QualId) (y : Symbol) (x : Lexeme) → found.mods ≡ []
    → Same (modifiers.at_mods (mods_shown found.mods) gap.Near y x.place.span.start x.place.before) (derived.at_mods (derived.with_annotation found sign path derived.NoneRead) (marked_as y x) x.place.before)
annotated-same found sign path y x e =
    ap (λ g. modifiers.at_mods (mods_shown found.mods) g y x.place.span.start x.place.before) (behind-annotation found derived.NoneRead sign path e)
    ∙ mods-same (derived.with_annotation found sign path derived.NoneRead) y x

pub annotation-same : (found : derived.Found) (sign : Place) (path : QualId) (y : Symbol) (x : Lexeme) → found.mods ≡ []
    → Same (modifiers.at_annotation (mods_shown found.mods) y x.place.span.start x.place.before) (derived.at_annotation found sign path (marked_as y x) x.place.before)
annotation-same found sign path symbol.Dot x e = refl
annotation-same found sign path symbol.OpenRound x e = same-if (is_no x.place.before) _ _ refl
annotation-same found sign path y x e = annotated-same found sign path y x e

-- ---- modifiers of access

pub access-shown : (a : derived.Access) (p : Place) (q : AccessQualifier) (f : Found) → modifiers.with_access f (qualified q (access_of a)) ≡ mod_shown (derived.access_mod a p q) f
access-shown derived.PrivateWord p q f = refl
access-shown derived.ProtectedWord p q f = refl

behind-access : (found : derived.Found) (a : derived.Access) (p : Place) (y : Symbol) (x : Lexeme)
    → Same (modifiers.at_mods (modifiers.with_access (mods_shown found.mods) (access_of a)) gap.Joined y x.place.span.start x.place.before)
    (derived.at_mods (derived.with_mod found (derived.access_mod a p NoQualifier)) (marked_as y x) x.place.before)
behind-access found a p y x =
    ap (λ f. modifiers.at_mods f gap.Joined y x.place.span.start x.place.before) (access-shown a p NoQualifier (mods_shown found.mods))
    ∙ mods-same (derived.with_mod found (derived.access_mod a p NoQualifier)) y x

pub access-same : (found : derived.Found) (a : derived.Access) (p : Place) (y : Symbol) (x : Lexeme)
    → Same (modifiers.at_access (mods_shown found.mods) (access_of a) y x.place.span.start x.place.before) (derived.at_access found a p (marked_as y x) x.place.before)
access-same found a p symbol.OpenSquare x = refl
access-same found a p y x = behind-access found a p y x

pub access-open-same : (found : derived.Found) (a : derived.Access) (p o : Place) (y : Symbol) (x : Lexeme)
    → Same (modifiers.at_access_open (mods_shown found.mods) (access_of a) y) (derived.at_access_open found a p o (marked_as y x))
access-open-same found a p o symbol.Id x = refl
access-open-same found a p o (symbol.Word word.This) x = refl
access-open-same found a p o _ x = refl

limited-is : (a : derived.Access) (q : derived.InQualifier) (k : Place) → limited a q ≡ qualified (derived.qualifier_of q k) (access_of a)
limited-is a (derived.NamedIn o id) k = refl
limited-is a (derived.ThisIn o p) k = refl

pub access-name-same : (found : derived.Found) (a : derived.Access) (p : Place) (q : derived.InQualifier) (y : Symbol) (x : Lexeme)
    → Same (modifiers.at_access_name (mods_shown found.mods) (limited a q) y) (derived.at_access_name found a p q (marked_as y x))
access-name-same found a p q symbol.CloseSquare x =
    ap (λ l. modifiers.state (modifiers.with_access (mods_shown found.mods) l) (tail.AtMods gap.Joined)) (limited-is a q x.place)
    ∙ ap (λ f. modifiers.state f (tail.AtMods gap.Joined)) (access-shown a p (derived.qualifier_of q x.place) (mods_shown found.mods))
access-name-same found a p q _ x = refl

-- ---- the arguments of an annotation

module _ (found : derived.Found) (sign : Place) (path : QualId) (o : Place) (is : List exprs.Item) where
  abbrev within : List Opened → exprs.Item → Option State
  within ks i = option_map shown (there found (derived.InArguments sign path o (is ++ i ∷ []) ks))

  plain-argument : (ks : List Opened) (m : Mark) (x : Lexeme) (r : Role) → role x ≡ r → role_as_bracket r ≡ None
      → Same (modifiers.state (mods_shown found.mods) (tail.InArguments (brackets_shown ks))) (derived.in_arguments found sign path o is ks m x r)
  plain-argument ks m x (Opens b) e n = cc
  plain-argument ks m x (Closes b) e n = cc
  plain-argument ks m x _ e n = ap (λ r. within (opened_after r x.place.span ks) (exprs.OneToken x)) (sym e)

  opens-argument : (ks : List Opened) (m : Mark) (x : Lexeme) (r : Role) → role x ≡ r → (b : Bracket) → is_curly b ≡ false → role_as_bracket r ≡ Some (Opens b)
      → Same (modifiers.with_bracket (mods_shown found.mods) (brackets_shown ks) (bracket_of b)) (derived.in_arguments found sign path o is ks m x r)
  opens-argument ks m x (Opens Round) e Round c n = ap (λ r. within (opened_after r x.place.span ks) (exprs.OneToken x)) (sym e)
  opens-argument ks m x (Opens Square) e Square c n = ap (λ r. within (opened_after r x.place.span ks) (exprs.OneToken x)) (sym e)
  opens-argument ks m x r e b c n = cc

  -- a bracket that is not the last one closes
  some-open : (ks : List Opened) (i : exprs.Item) → Same (modifiers.arguments_at (mods_shown found.mods) (brackets_shown ks)) (there found (derived.InArguments sign path o (is ++ i ∷ []) ks))
  some-open [] i = refl
  some-open (k ∷ ks) i = refl

  closes-one : (k : Opened) (ks : List Opened) (b : Bracket) (i : exprs.Item) → is_curly k.bracket ≡ false → is_curly b ≡ false
      → Same (modifiers.closed (mods_shown found.mods) (brackets_shown (k ∷ ks)) (bracket_of b)) (if matches b (k ∷ ks) then there found (derived.InArguments sign path o (is ++ i ∷ []) ks) else None)
  closes-one k ks b i c d = go k.bracket b c d where
    go : (a b : Bracket) → is_curly a ≡ false → is_curly b ≡ false
        → Same (if modifiers.same_bracket (bracket_of a) (bracket_of b) then modifiers.arguments_at (mods_shown found.mods) (brackets_shown ks) else None)
        (if same_bracket a b then there found (derived.InArguments sign path o (is ++ i ∷ []) ks) else None)
    go Round Round c d = some-open ks i
    go Round Square c d = refl
    go Square Round c d = refl
    go Square Square c d = some-open ks i
    go Curly b c d = cc
    go a Curly c d = cc

  closes-argument : (ks : List Opened) (x : Lexeme) (r : Role) → role x ≡ r → (y : Symbol) (b : Bracket) → bracket_role y ≡ Some (Closes b) → is_curly b ≡ false → role_as_bracket r ≡ Some (Closes b)
      → NoneCurly ks → found.mods ≡ []
      → Same (modifiers.closed (mods_shown found.mods) (brackets_shown ks) (bracket_of b)) (derived.in_arguments found sign path o is ks (marked_as y x) x r)
  closes-argument [] x (Closes Round) e symbol.CloseRound Round s c n l m =
      ap (λ g. modifiers.state (mods_shown found.mods) (tail.AtMods g)) (behind-annotation found (derived.Between o is x.place) sign path m)
  closes-argument [] x (Closes Square) e symbol.CloseSquare Square s c n l m = refl
  closes-argument (k ∷ ks) x (Closes Round) e symbol.CloseRound Round s c n l m = closes-one k ks Round (exprs.OneToken x) l.0 refl
  closes-argument (k ∷ ks) x (Closes Square) e symbol.CloseSquare Square s c n l m = closes-one k ks Square (exprs.OneToken x) l.0 refl
  closes-argument ks x r e y b s c n l m = cc

  pub arguments-same : (ks : List Opened) (y : Symbol) (x : Lexeme) → role_as_bracket (role x) ≡ bracket_role y → is_curly_symbol y ≡ false → NoneCurly ks → found.mods ≡ []
      → Same (modifiers.in_arguments (mods_shown found.mods) (brackets_shown ks) y) (derived.in_arguments found sign path o is ks (marked_as y x) x (role x))
  arguments-same ks symbol.OpenRound x e c n m = opens-argument ks (marked_as symbol.OpenRound x) x (role x) refl Round refl e
  arguments-same ks symbol.OpenSquare x e c n m = opens-argument ks (marked_as symbol.OpenSquare x) x (role x) refl Square refl e
  arguments-same ks symbol.CloseRound x e c n m = closes-argument ks x (role x) refl symbol.CloseRound Round refl refl e n m
  arguments-same ks symbol.CloseSquare x e c n m = closes-argument ks x (role x) refl symbol.CloseSquare Square refl refl e n m
  arguments-same ks symbol.OpenCurly x e c n m = cc
  arguments-same ks symbol.CloseCurly x e c n m = cc
  arguments-same ks y x e c n m = plain-argument ks (marked_as y x) x (role x) refl e

-- ---- types inside

-- a token more of the type, or what the reader and the machine do with one that is none
pub goes : (t : types.State) (x : Lexeme) (f : TypeState → Option State) (rest : Option State) (to : Option types.State → Option derived.State)
    → ((u : types.State) → Same (f (type_shown.shown u)) (to (Some u))) → Same rest (to None)
    → Same (if heads.goes_on (type_shown.shown t) x then f (type_on (type_shown.shown t) x) else rest) (to (types.step t x))
goes t x f rest to on none = go (heads.goes_on (type_shown.shown t) x) (type_on (type_shown.shown t) x) (types.step t x) (any-type t x) where
  go : (b : Bool) (u : TypeState) (o : Option types.State) → when b u ≡ option_map type_shown.shown o → Same (if b then f u else rest) (to o)
  go true u (Some v) e = (let same : u ≡ type_shown.shown v = cc in ap f same ∙ on v)
  go true u None e = cc
  go false u (Some v) e = cc
  go false u None e = none

-- behind a type that is whole
pub whole-type : (t : types.State) (f : Option State) (d : Option derived.State) → (type_of t ≡ None → Same None d)
    → ((type : WrittenType) → tall_of (type_shown.shown t) ≡ kept (type_tree type) → type_of t ≡ Some type → Same f d) → Same (if is_type (type_shown.shown t) then f else None) d
whole-type t f d none on = ap (λ b. if b then f else None) (type-whole t) ∙ go (type_of t) refl where
  go : (o : Option WrittenType) → type_of t ≡ o → Same (if exprs.is_some o then f else None) d
  go None e = none e
  go (Some type) e = on type (type-read-shown t type e) e

-- `=` behind a type that is whole
then-equals : (t : types.State) (y : Symbol) (f : Option State) (to : Option WrittenType → Option derived.State) → Same None (to None)
    → ((type : WrittenType) → tall_of (type_shown.shown t) ≡ kept (type_tree type) → Same (if heads.is_equals y then f else None) (to (Some type)))
    → Same (if is_type (type_shown.shown t) && heads.is_equals y then f else None) (to (type_of t))
then-equals t y f to none on =
    and-if (is_type (type_shown.shown t)) (heads.is_equals y) f
    ∙ whole-type t (if heads.is_equals y then f else None) (to (type_of t)) (λ e. none ∙ ap (λ o. option_map shown (to o)) (sym e)) (λ type k e. on type k ∙ ap (λ o. option_map shown (to o)) (sym e))
  where
    and-if : (a b : Bool) (g : Option State) → (if a && b then g else None) ≡ (if a then (if b then g else None) else None)
    and-if true b g = refl
    and-if false b g = refl

-- ---- values

pub value-same : (found : derived.Found) (w : ValueWord) (y : Symbol) (x : Lexeme) → Same (heads.at_value (mods_shown found.mods) (is_var w) (word_start w) y x) (steps.at_value found w (marked_as y x))
value-same found w symbol.Id x = refl
value-same found w _ x = refl

pub value-name-same : (found : derived.Found) (w : ValueWord) (id : Id) (y : Symbol) (x : Lexeme)
    → Same (heads.at_value_name (mods_shown found.mods) (value_shown w id NoType) y) (steps.at_value_name found w id (marked_as y x))
value-name-same found w id symbol.Colon x = refl
value-name-same found w id symbol.Equals x = refl
value-name-same found w id _ x = refl

typed-value-same : (found : derived.Found) (w : ValueWord) (id : Id) (p : Place) (t : types.State) (y : Symbol) (x : Lexeme) (type : WrittenType) → tall_of (type_shown.shown t) ≡ kept (type_tree type)
    → Same (if heads.is_equals y then heads.typed_value (mods_shown found.mods) (value_shown w id NoType) (type_shown.shown t) else None) (steps.typed_value found w id p (Some type) (marked_as y x))
typed-value-same found w id p t symbol.Equals x type e =
    ap (λ k. value_with (joined (kept_all []) k)) e ∙ ap value_with (joined-kept [] (type_tree type))
  where
    value_with : Option Kids → Option State
    value_with kids = modifiers.state (mods_shown found.mods) (tail.InValue (record (value_shown w id NoType) { named = record (value_shown w id NoType).named { kids = kids; has_type = true } }) (expr_shown.shown steps.right_side))
typed-value-same found w id p t _ x type e = refl

pub value-type-same : (found : derived.Found) (w : ValueWord) (id : Id) (p : Place) (t : types.State) (y : Symbol) (x : Lexeme)
    → Same (heads.in_value_type (mods_shown found.mods) (value_shown w id NoType) (type_shown.shown t) y x) (steps.in_value_type found w id p t (types.step t x) (marked_as y x))
value-type-same found w id p t y x =
    goes t x (λ u. modifiers.state (mods_shown found.mods) (tail.InValueType (value_shown w id NoType) u)) _ (λ o. steps.in_value_type found w id p t o (marked_as y x)) (λ u. refl)
    (then-equals t y _ (λ o. steps.typed_value found w id p o (marked_as y x)) refl (λ type e. typed-value-same found w id p t y x type e))

-- ---- aliases

pub type-same : (found : derived.Found) (p : Place) (y : Symbol) (x : Lexeme) → Same (heads.at_type (mods_shown found.mods) p.span.start y x) (steps.at_type found p (marked_as y x))
type-same found p symbol.Id x = same-if (is_no x.place.before) _ _ refl
type-same found p _ x = refl

pub type-name-same : (found : derived.Found) (p : Place) (id : Id) (y : Symbol) (x : Lexeme) → Same (heads.at_type_name (mods_shown found.mods) p.span.start (name_of id) y) (steps.at_type_name found p id (marked_as y x))
type-name-same found p id symbol.Equals x = refl
type-name-same found p id _ x = refl

pub alias-same : (found : derived.Found) (p : Place) (id : Id) (sign : Place) (t : types.State) (x : Lexeme)
    → Same (heads.in_alias (mods_shown found.mods) p.span.start (name_of id) (type_shown.shown t) x) (steps.in_alias found p id sign (types.step t x))
alias-same found p id sign t x = goes t x (λ u. modifiers.state (mods_shown found.mods) (tail.InAlias p.span.start (name_of id) u)) None (steps.in_alias found p id sign) (λ u. refl) refl

-- ---- methods

pub def-same : (found : derived.Found) (p : Place) (y : Symbol) (x : Lexeme) → Same (heads.at_def (mods_shown found.mods) p.span.start y x) (steps.at_def found p (marked_as y x))
def-same found p symbol.Id x = refl
def-same found p _ x = refl

-- type parameters begin behind a name alone
fresh-same : (found : derived.Found) (m : derived.Signature) (p : Place)
    → Same (if is_fresh m.tparams m.lists then modifiers.state (mods_shown found.mods) (tail.InTypeParams (heads.no_longer_fresh (method_shown m)) type_tail.Begin) else None)
    (if is_fresh m.tparams m.lists then there found (derived.InTParams m.word m.id p [] derived.TBegin) else None)
fresh-same found m p = go m.tparams m.lists where
  go : (ts : TParams) (ls : List ParList) → let n = steps.signature m.word m.id ts ls in
      Same (if is_fresh ts ls then modifiers.state (mods_shown found.mods) (tail.InTypeParams (heads.no_longer_fresh (method_shown n)) type_tail.Begin) else None)
      (if is_fresh ts ls then there found (derived.InTParams m.word m.id p [] derived.TBegin) else None)
  go NoTParams [] = refl
  go NoTParams (l ∷ ls) = refl
  go (TParamsOf o t ts k) ls = refl

no-pars : (m : derived.Signature) → heads.no_longer_fresh (method_shown m) ≡ pars_method m []
no-pars m = ap (λ ts. method_with m ts false false) (sym (append-nil (signature_trees m)))

pub method-same : (found : derived.Found) (m : derived.Signature) (y : Symbol) (x : Lexeme) → Same (heads.at_method (mods_shown found.mods) (method_shown m) y x.place.before) (steps.at_method found m (marked_as y x))
method-same found m symbol.OpenSquare x = fresh-same found m x.place
method-same found m symbol.OpenRound x =
    ap (λ n. if is_near x.place.before then modifiers.state (mods_shown found.mods) (tail.InParams n 0 (param_tail.Begin true)) else None) (no-pars m)
    ∙ same-if (is_near x.place.before) _ _ refl
method-same found m symbol.Colon x = refl
method-same found m symbol.Equals x = refl
method-same found m _ x = refl

typed-method-same : (found : derived.Found) (m : derived.Signature) (p : Place) (t : types.State) (y : Symbol) (x : Lexeme) (type : WrittenType) → tall_of (type_shown.shown t) ≡ kept (type_tree type)
    → Same (if heads.is_equals y then heads.typed_method (mods_shown found.mods) (method_shown m) (type_shown.shown t) else None) (steps.typed_method found m p (Some type) (marked_as y x))
typed-method-same found m p t symbol.Equals x type e =
    ap (λ k. method_of (joined (kept_all (signature_trees m)) k)) e ∙ ap method_of (joined-kept (signature_trees m) (type_tree type))
  where
    method_of : Option Kids → Option State
    method_of kids = modifiers.state (mods_shown found.mods)
        (tail.InMethod (record (method_shown m) { named = record (method_shown m).named { kids = kids; has_type = true }; is_fresh = false }) (expr_shown.shown steps.right_side))
typed-method-same found m p t _ x type e = refl

pub result-same : (found : derived.Found) (m : derived.Signature) (p : Place) (t : types.State) (y : Symbol) (x : Lexeme)
    → Same (heads.in_result (mods_shown found.mods) (method_shown m) (type_shown.shown t) y x) (steps.in_result found m p t (types.step t x) (marked_as y x))
result-same found m p t y x =
    goes t x (λ u. modifiers.state (mods_shown found.mods) (tail.InResult (method_shown m) u)) _ (λ o. steps.in_result found m p t o (marked_as y x)) (λ u. refl)
    (then-equals t y _ (λ o. steps.typed_method found m p o (marked_as y x)) refl (λ type e. typed-method-same found m p t y x type e))
