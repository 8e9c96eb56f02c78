-- What one item more of a definition asks of its state is kept by each step, so what the machine of definitions has read is its items.
use Rattle.std.proofs.Common.{◌≡◌, Bool, true, false, if◌then◌else◌, List, [], ◌∷◌, ◌++◌, Option, Some, None, refl, ap, sym, ◌∙◌, append_assoc, append-nil, subst}
use Rattle.reading_machines.specs.Machines.{run, onward}
use Rattle.scan_tokens.specs.declared.roles.Bracket.{Bracket}
use Rattle.scan_tokens.specs.declared.roles.Bracket.TheVariants.{Curly}
use Rattle.scan_tokens.specs.declared.roles.Role.{Role}
use Rattle.scan_tokens.specs.declared.roles.Role.TheVariants.{Opens, Closes}
use Rattle.scan_tokens.specs.declared.tokens.Newline.{Newline}
use Rattle.parse_parts.proofs.Derived as types
use Rattle.expr_tails.specs.declared.states.Limit.TheVariants as limit
use Rattle.expr_tails.specs.declared.symbols.Word.{Word}
use Rattle.expr_tails.specs.declared.symbols.Word.TheVariants as word
use Rattle.expr_laws.proofs.DefsStep.{Bare, RightStands, is_annotation, step-adds}
use Rattle.expr_laws.proofs.Derived as exprs
use Rattle.expr_laws.proofs.Derived.{Item, OneToken, BlockPair, CasesPair, EnumsPair, OtherPair, is_nil, type_of}
use Rattle.expr_laws.proofs.LastingFrames.{Stands}
use Rattle.expr_laws.proofs.LastingSteps.{begun-stands, step-stands}
use Rattle.expr_laws.proofs.Seen.{AnId, AColon, AnEquals, AComma, ADot, AWord, OpensRound, ClosesRound, OpensSquare, ClosesSquare}
use Rattle.source_grammar.specs.Brackets.{is_balanced, matches, Opened, role}
use Rattle.source_grammar.specs.Definitions.{Mod, NoQualifier, Par, TPar, TypePart}
use Rattle.source_grammar.specs.Expressions.{ValueWord}
use Rattle.source_grammar.specs.Lexemes.{Id, Lexeme, Place, QualId}
use Rattle.source_grammar.specs.Newlines.{is_near}
use Rattle.source_grammar.specs.Types.{WrittenType}
use Rattle.parse_patterns.specs.Steps.{is_no}
use Rattle.expr_laws.proofs.DefsDerived.{Access, access_mod, ALowerBound, AnAt, AnUpperBound, arguments_closed, at_access, at_access_name, at_access_open, at_annotation, at_mods, at_path, AtAccess, AtAccessName, AtAccessOpen, AtAnnotation, AtAnnotationDot, AtAt, AtDef, AtMethod, AtMods, AtProcedure, AtType, AtTypeName, AtValue, AtValueName, behind_path_dot, Between, bridges, DonePar, DoneTPar, Found, in_arguments, InAlias, InArguments, InMethod, InParams, InQualifier, InResult, InTParams, InValue, InValueType, mark, Mark, mod_of, NoneRead, on_mod, on_word, par_at, PAtName, PAtStar, PBegin, PInType, Plain, plain_mod, PTail, qualifier_of, Signature, Tail, State, TBegin, there, tpar_at, TTail, with_annotation, with_mod}
use Rattle.expr_laws.proofs.DefsSteps.{at_def, at_method, at_type, at_type_name, at_value, at_value_name, begun, behind_par, behind_tpar, bound_type, in_alias, in_method, in_result, in_tparams, in_value, in_value_type, is_fresh, is_star, items_in, list_closed, lower_behind, next_par, paired, par_named, par_parted, par_step, par_type, par_typed, pars_closed, procedure, right_side, starred, step, stepped, tpar_named, tpar_parted, tpar_step, tpars_closed, typed_method, typed_value, upper_behind, within}

abbrev pub Kept : Option State → Type 0
Kept None = Unit {0}
Kept (Some t) = Bare t × RightStands t.tail

-- at a tail that is in no annotation
free : (found : Found) → (false ≡ true → found.mods ≡ []) × Unit {0}
free found = (λ e. (let no : false ≡ true = e in cc), tt)

stood : (found : Found) (r : exprs.State) → Stands r → (false ≡ true → found.mods ≡ []) × Stands r
stood found r k = (λ e. (let no : false ≡ true = e in cc), k)

kept-if : (b : Bool) (o : Option State) → (b ≡ true → Kept o) → Kept (if b then o else None)
kept-if true o k = k refl
kept-if false o k = tt

-- ---- modifiers and annotations

plain-mod-kept : (found : Found) (m : Option Mod) → Kept (plain_mod found m)
plain-mod-kept found None = tt
plain-mod-kept found (Some m) = free (with_mod found m)

on-word-kept : (found : Found) (w : Word) (p : Place) → Kept (on_word found w p)
on-word-kept found word.Val p = free found
on-word-kept found word.Var p = free found
on-word-kept found word.Def p = free found
on-word-kept found word.Type p = free found
on-word-kept found word.Private p = free found
on-word-kept found word.Protected p = free found
on-word-kept found w p = plain-mod-kept found (mod_of w p)

pub none-before : (ms : List Mod) → is_nil ms ≡ true → ms ≡ []
none-before [] e = refl
none-before (m ∷ ms) e = cc

on-mod-kept : (found : Found) (y : Mark) → Kept (on_mod found y)
on-mod-kept found (AnAt p) = kept-if (is_nil found.mods) (there found (AtAt p)) (λ n. (λ e. none-before found.mods n, tt))
on-mod-kept found (Plain (AWord w p)) = on-word-kept found w p
on-mod-kept found _ = tt

mods-kept : (found : Found) (y : Mark) (before : Newline) → Kept (at_mods found y before)
mods-kept found y before = kept-if (bridges found.mods found.annotations before) (on_mod found y) (λ e. on-mod-kept found y)

path-kept : (found : Found) (sign : Place) (y : Mark) → found.mods ≡ [] → Kept (at_path found sign y)
path-kept found sign (Plain (AnId id)) b = (λ e. b, tt)
path-kept found sign _ b = tt

path-dot-kept : (found : Found) (sign : Place) (path : QualId) (p : Place) (y : Mark) → found.mods ≡ [] → Kept (behind_path_dot found sign path p y)
path-dot-kept found sign path p (Plain (AnId id)) b = (λ e. b, tt)
path-dot-kept found sign path p _ b = tt

annotation-kept : (found : Found) (sign : Place) (path : QualId) (y : Mark) (before : Newline) → found.mods ≡ [] → Kept (at_annotation found sign path y before)
annotation-kept found sign path (Plain (ADot p)) before b = (λ e. b, tt)
annotation-kept found sign path (Plain (OpensRound p)) before b = kept-if (is_no before) (there found (InArguments sign path p [] [])) (λ n. (λ e. b, tt))
annotation-kept found sign path y before b = mods-kept (with_annotation found sign path NoneRead) y before

arguments-closed-kept : (found : Found) (sign : Place) (path : QualId) (o : Place) (is : List Item) (y : Mark) (b : Bracket) (x : Lexeme) (ks : List Opened) → found.mods ≡ [] → Kept (arguments_closed found sign path o is y b x ks)
arguments-closed-kept found sign path o is y b x (k ∷ ks) m = kept-if (matches b (k ∷ ks)) (there found (InArguments sign path o (is ++ OneToken x ∷ []) ks)) (λ n. (λ e. m, tt))
arguments-closed-kept found sign path o is (Plain (ClosesRound p)) b x [] m = free (with_annotation found sign path (Between o is p))
arguments-closed-kept found sign path o is _ b x [] m = tt

arguments-kept : (found : Found) (sign : Place) (path : QualId) (o : Place) (is : List Item) (ks : List Opened) (y : Mark) (x : Lexeme) (r : Role) → found.mods ≡ [] → Kept (in_arguments found sign path o is ks y x r)
arguments-kept found sign path o is ks y x (Opens Curly) m = tt
arguments-kept found sign path o is ks y x (Closes Curly) m = tt
arguments-kept found sign path o is ks y x (Closes b) m = arguments-closed-kept found sign path o is y b x ks m
arguments-kept found sign path o is ks y x _ m = (λ e. m, tt)

access-kept : (found : Found) (a : Access) (p : Place) (y : Mark) (before : Newline) → Kept (at_access found a p y before)
access-kept found a p (Plain (OpensSquare q)) before = free found
access-kept found a p y before = mods-kept (with_mod found (access_mod a p NoQualifier)) y before

access-open-kept : (found : Found) (a : Access) (p o : Place) (y : Mark) → Kept (at_access_open found a p o y)
access-open-kept found a p o (Plain (AnId id)) = free found
access-open-kept found a p o (Plain (AWord word.This q)) = free found
access-open-kept found a p o _ = tt

access-name-kept : (found : Found) (a : Access) (p : Place) (q : InQualifier) (y : Mark) → Kept (at_access_name found a p q y)
access-name-kept found a p q (Plain (ClosesSquare k)) = free (with_mod found (access_mod a p (qualifier_of q k)))
access-name-kept found a p q _ = tt

-- ---- values and aliases

value-kept : (found : Found) (w : ValueWord) (y : Mark) → Kept (at_value found w y)
value-kept found w (Plain (AnId id)) = free found
value-kept found w _ = tt

value-name-kept : (found : Found) (w : ValueWord) (id : Id) (y : Mark) → Kept (at_value_name found w id y)
value-name-kept found w id (Plain (AColon p)) = free found
value-name-kept found w id (Plain (AnEquals p)) = stood found right_side (begun-stands limit.Expr)
value-name-kept found w id _ = tt

typed-value-kept : (found : Found) (w : ValueWord) (id : Id) (p : Place) (type : Option WrittenType) (y : Mark) → Kept (typed_value found w id p type y)
typed-value-kept found w id p None y = tt
typed-value-kept found w id p (Some type) (Plain (AnEquals q)) = stood found right_side (begun-stands limit.Expr)
typed-value-kept found w id p (Some type) _ = tt

value-type-kept : (found : Found) (w : ValueWord) (id : Id) (p : Place) (t : types.State) (u : Option types.State) (y : Mark) → Kept (in_value_type found w id p t u y)
value-type-kept found w id p t (Some u) y = free found
value-type-kept found w id p t None y = typed-value-kept found w id p (type_of t) y

-- the right side goes on
value-right-kept : (found : Found) (w : ValueWord) (id : Id) (type : TypePart) (sign : Place) (r : exprs.State) (i : Item) (o : Option exprs.State) → Stands r → exprs.step r i ≡ o → Kept (in_value found w id type sign o)
value-right-kept found w id type sign r i None k e = tt
value-right-kept found w id type sign r i (Some t) k e = stood found t (step-stands r i k t e)

type-kept : (found : Found) (p : Place) (y : Mark) → Kept (at_type found p y)
type-kept found p (Plain (AnId id)) = kept-if (is_no id.place.before) (there found (AtTypeName p id)) (λ e. free found)
type-kept found p _ = tt

type-name-kept : (found : Found) (p : Place) (id : Id) (y : Mark) → Kept (at_type_name found p id y)
type-name-kept found p id (Plain (AnEquals q)) = free found
type-name-kept found p id _ = tt

alias-kept : (found : Found) (p : Place) (id : Id) (sign : Place) (u : Option types.State) → Kept (in_alias found p id sign u)
alias-kept found p id sign None = tt
alias-kept found p id sign (Some u) = free found

-- ---- methods

def-kept : (found : Found) (p : Place) (y : Mark) → Kept (at_def found p y)
def-kept found p (Plain (AnId id)) = free found
def-kept found p _ = tt

method-kept : (found : Found) (m : Signature) (y : Mark) → Kept (at_method found m y)
method-kept found m (Plain (OpensSquare p)) = kept-if (is_fresh m.tparams m.lists) (there found (InTParams m.word m.id p [] TBegin)) (λ e. free found)
method-kept found m (Plain (OpensRound p)) = kept-if (is_near p.before) (there found (InParams m p [] PBegin)) (λ e. free found)
method-kept found m (Plain (AColon p)) = free found
method-kept found m (Plain (AnEquals p)) = stood found right_side (begun-stands limit.Expr)
method-kept found m _ = tt

typed-method-kept : (found : Found) (m : Signature) (p : Place) (type : Option WrittenType) (y : Mark) → Kept (typed_method found m p type y)
typed-method-kept found m p None y = tt
typed-method-kept found m p (Some type) (Plain (AnEquals q)) = stood found right_side (begun-stands limit.Expr)
typed-method-kept found m p (Some type) _ = tt

result-kept : (found : Found) (m : Signature) (p : Place) (t : types.State) (u : Option types.State) (y : Mark) → Kept (in_result found m p t u y)
result-kept found m p t (Some u) y = free found
result-kept found m p t None y = typed-method-kept found m p (type_of t) y

method-right-kept : (found : Found) (m : Signature) (type : TypePart) (sign : Place) (r : exprs.State) (i : Item) (o : Option exprs.State) → Stands r → exprs.step r i ≡ o → Kept (in_method found m type sign o)
method-right-kept found m type sign r i None k e = tt
method-right-kept found m type sign r i (Some t) k e = stood found t (step-stands r i k t e)

procedure-kept : (found : Found) (m : Signature) (i : Item) → Kept (procedure found m i)
procedure-kept found m (BlockPair o block k) = kept-if (is_near o.before) (there found (AtProcedure m o block k)) (λ e. free found)
procedure-kept found m _ = tt

-- ---- type parameters

tparams-kept : (found : Found) (p : Place) (id : Id) (o : Place) (done : List DoneTPar) (now : Option TTail) → Kept (in_tparams found p id o done now)
tparams-kept found p id o done None = tt
tparams-kept found p id o done (Some now) = free found

tpar-parted-kept : (found : Found) (p : Place) (id : Id) (o : Place) (done : List DoneTPar) (q : Place) (tpar : Option TPar) → Kept (tpar_parted found p id o done q tpar)
tpar-parted-kept found p id o done q None = tt
tpar-parted-kept found p id o done q (Some tpar) = free found

tpars-closed-kept : (found : Found) (p : Place) (id : Id) (o : Place) (done : List DoneTPar) (k : Place) (tpar : Option TPar) → Kept (tpars_closed found p id o done k tpar)
tpars-closed-kept found p id o done k None = tt
tpars-closed-kept found p id o done k (Some tpar) = free found

behind-tpar-kept : (found : Found) (p : Place) (id : Id) (o : Place) (done : List DoneTPar) (now : TTail) (y : Mark) → Kept (behind_tpar found p id o done now y)
behind-tpar-kept found p id o done now (ALowerBound q) = tparams-kept found p id o done (lower_behind q now)
behind-tpar-kept found p id o done now (AnUpperBound q) = tparams-kept found p id o done (upper_behind q now)
behind-tpar-kept found p id o done now (Plain (AComma q)) = tpar-parted-kept found p id o done q (tpar_at now)
behind-tpar-kept found p id o done now (Plain (ClosesSquare k)) = tpars-closed-kept found p id o done k (tpar_at now)
behind-tpar-kept found p id o done now (Plain (AnId name)) = tparams-kept found p id o done (tpar_named name now)
behind-tpar-kept found p id o done now _ = tt

tpar-step-kept : (found : Found) (p : Place) (id : Id) (o : Place) (done : List DoneTPar) (now : TTail) (next : Option TTail) (y : Mark) → Kept (tpar_step found p id o done now next y)
tpar-step-kept found p id o done now (Some next) y = free found
tpar-step-kept found p id o done now None y = behind-tpar-kept found p id o done now y

-- ---- parameters

starred-kept : (found : Found) (m : Signature) (o : Place) (done : List DonePar) (id : Id) (p : Place) (star : Id) (type : Option WrittenType) → Kept (starred found m o done id p star type)
starred-kept found m o done id p star None = tt
starred-kept found m o done id p star (Some type) = kept-if (is_star star) (there found (InParams m o done (PAtStar id p type star.place))) (λ e. free found)

par-named-kept : (found : Found) (m : Signature) (o : Place) (done : List DonePar) (name : Id) (now : PTail) → Kept (par_named found m o done name now)
par-named-kept found m o done name PBegin = free found
par-named-kept found m o done name (PInType id p t) = starred-kept found m o done id p name (type_of t)
par-named-kept found m o done name _ = tt

par-typed-kept : (found : Found) (m : Signature) (o : Place) (done : List DonePar) (p : Place) (now : PTail) → Kept (par_typed found m o done p now)
par-typed-kept found m o done p (PAtName id) = free found
par-typed-kept found m o done p _ = tt

pars-closed-kept : (found : Found) (m : Signature) (o : Place) (done : List DonePar) (k : Place) (par : Option Par) → Kept (pars_closed found m o done k par)
pars-closed-kept found m o done k None = tt
pars-closed-kept found m o done k (Some par) = free found

list-closed-kept : (found : Found) (m : Signature) (o : Place) (done : List DonePar) (k : Place) (now : PTail) → Kept (list_closed found m o done k now)
list-closed-kept found m o [] k PBegin = free found
list-closed-kept found m o done k now = pars-closed-kept found m o done k (par_at now)

next-par-kept : (found : Found) (m : Signature) (o : Place) (done : List DonePar) (p : Place) (par : Option Par) → Kept (next_par found m o done p par)
next-par-kept found m o done p None = tt
next-par-kept found m o done p (Some par) = free found

par-parted-kept : (found : Found) (m : Signature) (o : Place) (done : List DonePar) (p : Place) (now : PTail) → Kept (par_parted found m o done p now)
par-parted-kept found m o done p (PInType id q t) = next-par-kept found m o done p (par_at (PInType id q t))
par-parted-kept found m o done p _ = tt

behind-par-kept : (found : Found) (m : Signature) (o : Place) (done : List DonePar) (now : PTail) (y : Mark) → Kept (behind_par found m o done now y)
behind-par-kept found m o done now (Plain (AnId name)) = par-named-kept found m o done name now
behind-par-kept found m o done now (Plain (AColon p)) = par-typed-kept found m o done p now
behind-par-kept found m o done now (Plain (AComma p)) = par-parted-kept found m o done p now
behind-par-kept found m o done now (Plain (ClosesRound k)) = list-closed-kept found m o done k now
behind-par-kept found m o done now _ = tt

par-step-kept : (found : Found) (m : Signature) (o : Place) (done : List DonePar) (now : PTail) (next : Option PTail) (y : Mark) → Kept (par_step found m o done now next y)
par-step-kept found m o done now (Some next) y = free found
par-step-kept found m o done now None y = behind-par-kept found m o done now y

-- ---- the machine

stepped-kept : (s : Tail) (found : Found) (y : Mark) (x : Lexeme) → (is_annotation s ≡ true → found.mods ≡ []) → RightStands s → Kept (stepped s found y x)
stepped-kept AtMods found y x b k = mods-kept found y x.place.before
stepped-kept (AtAt sign) found y x b k = path-kept found sign y (b refl)
stepped-kept (AtAnnotation sign path) found y x b k = annotation-kept found sign path y x.place.before (b refl)
stepped-kept (AtAnnotationDot sign path p) found y x b k = path-dot-kept found sign path p y (b refl)
stepped-kept (InArguments sign path o is ks) found y x b k = arguments-kept found sign path o is ks y x (role x) (b refl)
stepped-kept (AtAccess a p) found y x b k = access-kept found a p y x.place.before
stepped-kept (AtAccessOpen a p o) found y x b k = access-open-kept found a p o y
stepped-kept (AtAccessName a p q) found y x b k = access-name-kept found a p q y
stepped-kept (AtValue w) found y x b k = value-kept found w y
stepped-kept (AtValueName w id) found y x b k = value-name-kept found w id y
stepped-kept (InValueType w id p t) found y x b k = value-type-kept found w id p t (types.step t x) y
stepped-kept (InValue w id type sign r) found y x b k = value-right-kept found w id type sign r (OneToken x) _ k refl
stepped-kept (AtDef p) found y x b k = def-kept found p y
stepped-kept (AtMethod m) found y x b k = method-kept found m y
stepped-kept (InTParams p id o done now) found y x b k = tpar-step-kept found p id o done now (bound_type now x) y
stepped-kept (InParams m o done now) found y x b k = par-step-kept found m o done now (par_type now x) y
stepped-kept (InResult m p t) found y x b k = result-kept found m p t (types.step t x) y
stepped-kept (InMethod m type sign r) found y x b k = method-right-kept found m type sign r (OneToken x) _ k refl
stepped-kept (AtType p) found y x b k = type-kept found p y
stepped-kept (AtTypeName p id) found y x b k = type-name-kept found p id y
stepped-kept (InAlias p id sign t) found y x b k = alias-kept found p id sign (types.step t x)
stepped-kept (AtProcedure m o block p) found y x b k = tt

paired-kept : (s : Tail) (found : Found) (i : Item) → (is_annotation s ≡ true → found.mods ≡ []) → RightStands s → Kept (paired s found i)
paired-kept (InArguments sign path o is ks) found i b k = kept-if (is_balanced (within i)) (there found (InArguments sign path o (is ++ i ∷ []) ks)) (λ n. (λ e. b refl, tt))
paired-kept (InValue w id type sign r) found i b k = value-right-kept found w id type sign r i _ k refl
paired-kept (AtMethod m) found i b k = procedure-kept found m i
paired-kept (InMethod m type sign r) found i b k = method-right-kept found m type sign r i _ k refl
paired-kept _ found i b k = tt

step-kept : (s : State) (i : Item) → Bare s → RightStands s.tail → Kept (step s i)
step-kept s (OneToken x) b k = stepped-kept s.tail s.found (mark x) x b k
step-kept s (BlockPair o block p) b k = paired-kept s.tail s.found (BlockPair o block p) b k
step-kept s (CasesPair o cases p) b k = paired-kept s.tail s.found (CasesPair o cases p) b k
step-kept s (EnumsPair o enums p) b k = paired-kept s.tail s.found (EnumsPair o enums p) b k
step-kept s (OtherPair o xs p) b k = paired-kept s.tail s.found (OtherPair o xs p) b k

run-adds : (is : List Item) (s t : State) → Bare s → RightStands s.tail → run step is s ≡ Some t → items_in t ≡ items_in s ++ is
run-adds [] s t b k e = (let same : s ≡ t = cc in ap items_in (sym same) ∙ sym (append-nil (items_in s)))
run-adds (i ∷ is) s t b k e =
    go (step s i) refl e
    (λ u f g. (let kept : Kept (Some u) = subst Kept f (step-kept s i b k) in
    run-adds is u t kept.0 kept.1 g ∙ ap (λ js. js ++ is) (step-adds s i u b k f) ∙ append_assoc (items_in s) (i ∷ []) is))
  where
    go : (o : Option State) → step s i ≡ o → onward o None (run step is) ≡ Some t → ((u : State) → step s i ≡ Some u → run step is u ≡ Some t → items_in t ≡ items_in s ++ i ∷ is) → items_in t ≡ items_in s ++ i ∷ is
    go None f g on = cc
    go (Some u) f g on = on u f g

pub run-kept : (is : List Item) (s t : State) → Bare s → RightStands s.tail → run step is s ≡ Some t → Kept (Some t)
run-kept [] s t b k e = subst Kept e (b, k)
run-kept (i ∷ is) s t b k e = go (step s i) refl e (λ u f g. (let kept : Kept (Some u) = subst Kept f (step-kept s i b k) in run-kept is u t kept.0 kept.1 g)) where
  go : (o : Option State) → step s i ≡ o → onward o None (run step is) ≡ Some t → ((u : State) → step s i ≡ Some u → run step is u ≡ Some t → Kept (Some t)) → Kept (Some t)
  go None f g on = cc
  go (Some u) f g on = on u f g

-- what was read of items is these
pub read-defs : (is : List Item) (t : State) → run step is begun ≡ Some t → items_in t ≡ is
read-defs is t e = run-adds is begun t (λ n. refl) tt e
