-- Types within an expression: their tokens lead to where they were read, and those that follow go on with none.
use Rattle.std.proofs.Common.{◌≡◌, Bool, true, false, if◌then◌else◌, List, [], ◌∷◌, ◌++◌, Option, Some, None, refl, ap, sym, ◌∙◌, append_assoc}
use Rattle.reading_machines.specs.Machines.{run, onward}
use Rattle.scan_tokens.specs.declared.tokens.TokenKind.TheVariants as kind
use Rattle.source_grammar.specs.Expressions.{PrefixSign, Expr, Prim, NewOf, TypeApplyPrim}
use Rattle.source_grammar.specs.ExpressionRules.{is_name_kind, ends_with_name, ends_in_path, extends_type}
use Rattle.source_grammar.specs.Lexemes.{Place, Lexeme, open_round, open_square, close_square, comma, dot, underscore, Id, id_token, Step, QualId, steps_tokens, qual_id_tokens}
use Rattle.source_grammar.specs.Types.{WrittenType, FunOfNamed, FunOfNone, FunOfTypes, Simple, Named, OfPath, TypeList, LastType, MoreTypes, type_tokens, type_list_tokens}
use Rattle.parse_parts.proofs.Along as types_along
use Rattle.parse_parts.proofs.Derived as types
use Rattle.parse_parts.proofs.Exact.{type-runs}
use Rattle.parse_parts.proofs.Sound.{settled-tokens}
use Rattle.parse_patterns.proofs.SimpleTypes.{simple_step, simple-runs}
use Rattle.expr_tails.specs.declared.states.Limit.{Limit}
use Rattle.expr_tails.specs.declared.states.Limit.TheVariants as limit
use Rattle.expr_tails.specs.Symbols.{symbol_of}
use Rattle.expr_laws.proofs.After.{behind_type}
use Rattle.expr_laws.proofs.Behind.{StaysOut, hole_at}
use Rattle.expr_laws.proofs.Derived.{OneToken, Operation, Tail, AtPrim, InNew, InTypes, InTyped, Context, Frame, dotted_read, dotted_of, dotted_prim, type_read, type_of, type_begun, is_some, typed_expr, chain_of, innermost_at, prim_at, at, state, in_state, goes_on, new_type, types_type, in_type, or_decided, types_on, step}
use Rattle.expr_laws.proofs.Items.{tokens}
use Rattle.expr_laws.proofs.Moving.{Leads, leads-none, leads-then, leads-on, leads-one, leads-to, leads-as, tokens-append, token-step}
use Rattle.expr_laws.proofs.Seen.{Seen, AComma, ClosesSquare, seen, seen-comma, seen-close_square}
use Rattle.expr_laws.proofs.Settling.{comma-no-type}
use Rattle.expr_laws.proofs.TokenSteps.{type-there}

-- ---- what limits let through

-- In the guard of a case the type behind `new` is a Simple: an arrow is that of the case.
abbrev pub is_case_limit : Limit → Bool
is_case_limit limit.CaseGuard = true
is_case_limit _ = false

abbrev pub is_simple : WrittenType → Bool
is_simple (Simple simple) = true
is_simple _ = false

abbrev pub TypeFits : Limit → WrittenType → Type 0
TypeFits l type = is_case_limit l ≡ true → is_simple type ≡ true

same-runs : {S X : Type 0} (f g : S → X → Option S) → ((s : S) (x : X) → f s x ≡ g s x) → (xs : List X) (s : S) → run f xs s ≡ run g xs s
same-runs f g e [] s = refl
same-runs f g e (x ∷ xs) s = ap (λ o. onward o None (run f xs)) (e s x) ∙ go (g s x) (same-runs f g e xs) where
  go : {S : Type 0} (o : Option S) {f g : S → Option S} → ((s : S) → f s ≡ g s) → onward o None f ≡ onward o None g
  go None on = refl
  go (Some t) on = on t

pub goes-runs : (l : Limit) (type : WrittenType) → TypeFits l type → run (goes_on l) (type_tokens type) type_begun ≡ Some (behind_type type)
goes-runs limit.CaseGuard (Simple simple) fit =
    same-runs (goes_on limit.CaseGuard) simple_step (λ s x. refl) (type_tokens (Simple simple)) type_begun ∙ simple-runs simple
goes-runs limit.CaseGuard (FunOfNamed named a result) fit = (let no : false ≡ true = fit refl in cc)
goes-runs limit.CaseGuard (FunOfNone o c a result) fit = (let no : false ≡ true = fit refl in cc)
goes-runs limit.CaseGuard (FunOfTypes o ts c a result) fit = (let no : false ≡ true = fit refl in cc)
goes-runs limit.Expr type fit = same-runs (goes_on limit.Expr) types.step (λ s x. refl) (type_tokens type) type_begun ∙ type-runs type (type_tokens type) refl
goes-runs limit.Guard type fit = same-runs (goes_on limit.Guard) types.step (λ s x. refl) (type_tokens type) type_begun ∙ type-runs type (type_tokens type) refl
goes-runs limit.Param type fit = same-runs (goes_on limit.Param) types.step (λ s x. refl) (type_tokens type) type_begun ∙ type-runs type (type_tokens type) refl

-- ---- the tokens of types

pub in-leads : (f : types.State → Lexeme → Option types.State) (to : types.State → Tail) (c : Context)
    → ((t : types.State) (x : Lexeme) (v : types.State) → f t x ≡ Some v → in_type c.limit (to t) x ≡ Some (to v))
    → (xs : List Lexeme) (t u : types.State) (fs : List Frame) → run f xs t ≡ Some u → Leads (tokens xs) (state fs (at c (to t))) (state fs (at c (to u)))
in-leads f to c k [] t u fs e = (let same : t ≡ u = cc in leads-to [] _ _ _ (ap (λ v. state fs (at c (to v))) same) (leads-none _))
in-leads f to c k (x ∷ xs) t u fs e = go (f t x) refl e (λ v r. in-leads f to c k xs v u fs r) where
  go : (o : Option types.State) → f t x ≡ o → onward o None (run f xs) ≡ Some u → ((v : types.State) → run f xs v ≡ Some u → Leads (tokens xs) (state fs (at c (to v))) (state fs (at c (to u))))
      → Leads (tokens (x ∷ xs)) (state fs (at c (to t))) (state fs (at c (to u)))
  go None was g on = cc
  go (Some v) was g on = leads-on (OneToken x) (tokens xs) _ (state fs (at c (to v))) _ (ap (λ o. or_decided o x fs (at c (to t))) (k t x v was)) (on v g)

-- behind `new`
pub new-leads : (word : Place) (type : WrittenType) (c : Context) (fs : List Frame) → TypeFits c.limit type
    → Leads (tokens (type_tokens type)) (state fs (at c (InNew word type_begun))) (state fs (at c (InNew word (behind_type type))))
new-leads word type c fs fit =
    in-leads (goes_on c.limit) (InNew word) c (λ t x v e. ap (new_type word) e) (type_tokens type) type_begun (behind_type type) fs (goes-runs c.limit type fit)

-- ---- types in brackets

one-leads : (prim : Prim) (o : Place) (done : List types.Done) (type : WrittenType) (c : Context) (fs : List Frame)
    → Leads (tokens (type_tokens type)) (state fs (at c (InTypes prim o done type_begun))) (state fs (at c (InTypes prim o done (behind_type type))))
one-leads prim o done type c fs =
    in-leads types.step (InTypes prim o done) c (λ t x v e. ap (types_type prim o done) e) (type_tokens type) type_begun (behind_type type) fs (type-runs type (type_tokens type) refl)

-- behind one of them
types-on : (x : Lexeme) (y : Seen) (prim : Prim) (o : Place) (done : List types.Done) (type : WrittenType) (c : Context) (fs : List Frame) → seen x ≡ y → types.step (behind_type type) x ≡ None
    → step (state fs (at c (InTypes prim o done (behind_type type)))) (OneToken x) ≡ in_state fs (types_on y prim o done (Some type) (at c (InTypes prim o done (behind_type type))))
types-on x y prim o done type c fs e n =
    token-step x y (symbol_of x.kind x.word) fs (at c (InTypes prim o done (behind_type type))) (at c (InTypes prim o done (behind_type type))) (ap (types_type prim o done) n) e refl refl
    ∙ ap (λ k. in_state fs (types_on y prim o done k (at c (InTypes prim o done (behind_type type))))) (type-there type)

pub types-along : (ts : TypeList) (prim : Prim) (o k : Place) (done : List types.Done) (c : Context) (fs : List Frame)
    → Leads (tokens (type_list_tokens ts) ++ OneToken (close_square k) ∷ []) (state fs (at c (InTypes prim o done type_begun))) (state fs (at c (AtPrim (TypeApplyPrim prim o (types.listed done ts) k))))
types-along (LastType type) prim o k done c fs =
    leads-then (tokens (type_tokens type)) _ _ (state fs (at c (InTypes prim o done (behind_type type)))) _ (one-leads prim o done type c fs)
    (leads-one (OneToken (close_square k)) _ _ (types-on (close_square k) (ClosesSquare k) prim o done type c fs (seen-close_square k) refl))
types-along (MoreTypes type p ts) prim o k done c fs =
    let more = record { type = type; place = p } ∷ done in
    leads-as (tokens (type_tokens type) ++ OneToken (comma p) ∷ (tokens (type_list_tokens ts) ++ OneToken (close_square k) ∷ [])) _ _ _ (same-items (type_tokens type) p (type_list_tokens ts))
    (leads-then (tokens (type_tokens type)) _ _ (state fs (at c (InTypes prim o done (behind_type type)))) _ (one-leads prim o done type c fs)
    (leads-on (OneToken (comma p)) _ _ (state fs (at c (InTypes prim o more type_begun))) _
    (types-on (comma p) (AComma p) prim o done type c fs (seen-comma p) (comma-no-type p (behind_type type) refl)) (types-along ts prim o k more c fs)))
  where
    same-items : (xs : List Lexeme) (p : Place) (ys : List Lexeme)
        → tokens xs ++ OneToken (comma p) ∷ (tokens ys ++ OneToken (close_square k) ∷ []) ≡ tokens (xs ++ comma p ∷ ys) ++ OneToken (close_square k) ∷ []
    same-items xs p ys =
        sym (ap (λ is. is ++ OneToken (close_square k) ∷ []) (tokens-append xs (comma p ∷ ys)) ∙ append_assoc (tokens xs) (OneToken (comma p) ∷ tokens ys) (OneToken (close_square k) ∷ []))

-- ---- what follows a type

ends-behind : (xs ys : List Lexeme) → ends_with_name ys ≡ true → ends_with_name (xs ++ ys) ≡ true
ends-behind [] ys e = e
ends-behind (x ∷ xs) ys e = go (xs ++ ys) (ends-behind xs ys e) where
  go : (zs : List Lexeme) → ends_with_name zs ≡ true → ends_with_name (x ∷ zs) ≡ true
  go [] f = cc
  go (z ∷ zs) f = f

pub name-ends : (id : Id) → is_name_kind (id_token id).kind ≡ true
name-ends id = go id.quoted where
  go : (b : Bool) → is_name_kind (if b then kind.BackId else kind.Id) ≡ true
  go true = refl
  go false = refl

path-ends : (id : Id) (steps : List Step) → ends_with_name (id_token id ∷ steps_tokens steps) ≡ true
path-ends id [] = name-ends id
path-ends id (s ∷ steps) = path-ends s.id steps

pub settled-ends : (hs : List types.Head) (path : QualId) → ends_in_path (types.settled hs (Simple (Named (OfPath path)))) ≡ true
settled-ends hs path =
    ap ends_with_name (settled-tokens hs (Simple (Named (OfPath path)))) ∙ ends-behind (types.heads_tokens hs) (qual_id_tokens path) (path-ends path.first path.steps)

-- of the tails of a Prim only that of a type can go on with it
pub prim-out : (s : Tail) (d : Prim) (x : Lexeme) → prim_at s ≡ Some d → ((word : Place) (t : types.State) → dotted_prim word (dotted_of t) (type_of t) ≡ Some d → types.step t x ≡ None) → StaysOut s x
prim-out (InNew word t) d x e k = k word t e
prim-out (InTypes prim o done t) d x e k = cc
prim-out (InTyped of point t) d x e k = cc
prim-out _ d x e k = tt

-- by where the type is
abbrev tail_prim : Place → List types.Head → List types.Frame → types.Tail → Option Prim
tail_prim word hs fs s = dotted_prim word (dotted_read fs hs s) (type_read fs hs (types.simple_of s))

-- no type goes on with what begins a pattern, but for a name behind its `.`
expr-out : (s : Tail) (os : List Operation) (sign : Option PrefixSign) (e : Expr) (x : Lexeme) → innermost_at s (chain_of os sign (prim_at s)) ≡ Some e
    → ((w : Place) (t : types.State) → s ≡ InNew w t → is_some (dotted_prim w (dotted_of t) (type_of t)) ≡ true → types.step t x ≡ None)
    → ((t : types.State) → is_some (type_of t) ≡ true → types.step t x ≡ None) → StaysOut s x
expr-out (InNew w t) os sign e x h k j = k w t refl (go (dotted_prim w (dotted_of t) (type_of t)) h) where
  go : (o : Option Prim) → innermost_at (InNew w t) (chain_of os sign o) ≡ Some e → is_some o ≡ true
  go None f = cc
  go (Some d) f = refl
expr-out (InTypes prim o done t) os sign e x h k j = cc
expr-out (InTyped of p t) os sign e x h k j = j t (go (type_of t) h) where
  go : (o : Option WrittenType) → typed_expr of p o ≡ Some e → is_some o ≡ true
  go None f = cc
  go (Some type) f = refl
expr-out _ os sign e x h k j = tt

pub wild-out : (s : Tail) (os : List Operation) (sign : Option PrefixSign) (e : Expr) (p : Place) → innermost_at s (chain_of os sign (prim_at s)) ≡ Some e → StaysOut s (underscore p)
wild-out s os sign e p h = expr-out s os sign e (underscore p) h (λ w t f g. refl) (λ t g. refl)

pub round-out : (s : Tail) (os : List Operation) (sign : Option PrefixSign) (e : Expr) (o : Place) → innermost_at s (chain_of os sign (prim_at s)) ≡ Some e → StaysOut s (open_round o)
round-out s os sign e o h = expr-out s os sign e (open_round o) h (λ w t f g. new w t.heads t.frames t.tail g) (λ t g. typed t.heads t.frames t.tail g) where
  new : (w : Place) (hs : List types.Head) (fs : List types.Frame) (k : types.Tail) → is_some (tail_prim w hs fs k) ≡ true → types.round_opened o k hs fs ≡ None
  new w hs [] types.Begin g = cc
  new w hs (x ∷ fs) types.Begin g = cc
  new w hs fs _ g = refl

  typed : (hs : List types.Head) (fs : List types.Frame) (k : types.Tail) → is_some (type_read fs hs (types.simple_of k)) ≡ true → types.round_opened o k hs fs ≡ None
  typed hs [] types.Begin g = cc
  typed hs (x ∷ fs) types.Begin g = cc
  typed hs fs _ g = refl

pub id-out : (s : Tail) (os : List Operation) (sign : Option PrefixSign) (e : Expr) (id : Id) → innermost_at s (chain_of os sign (prim_at s)) ≡ Some e → hole_at s ≡ false → StaysOut s (id_token id)
id-out s os sign e id h n = expr-out s os sign e (id_token id) h (λ w t f g. types_along.id-step id t ∙ new w t.heads t.frames t.tail g (sym (ap hole_at f) ∙ n)) (λ t g. types_along.id-step id t ∙ typed t.heads t.frames t.tail g) where
  new : (w : Place) (hs : List types.Head) (fs : List types.Frame) (k : types.Tail) → is_some (tail_prim w hs fs k) ≡ true → is_some (dotted_read fs hs k) ≡ false → types.named_on id k hs fs ≡ None
  new w hs [] types.Begin g m = cc
  new w hs (x ∷ fs) types.Begin g m = cc
  new w hs [] (types.AtDot path p) g m = cc
  new w hs (x ∷ fs) (types.AtDot path p) g m = cc
  new w hs fs _ g m = refl

  typed : (hs : List types.Head) (fs : List types.Frame) (k : types.Tail) → is_some (type_read fs hs (types.simple_of k)) ≡ true → types.named_on id k hs fs ≡ None
  typed hs [] types.Begin g = cc
  typed hs (x ∷ fs) types.Begin g = cc
  typed hs [] (types.AtDot path p) g = cc
  typed hs (x ∷ fs) (types.AtDot path p) g = cc
  typed hs fs _ g = refl

-- a `.` and types behind a path alone
not-path : (word : Place) (hs : List types.Head) (path : QualId) (d : Prim) → Some (NewOf word (types.settled hs (Simple (Named (OfPath path))))) ≡ Some d → extends_type d ≡ false → ⊥
not-path word hs path d f h =
    let same : NewOf word (types.settled hs (Simple (Named (OfPath path)))) ≡ d = cc in
    let no : true ≡ false = sym (settled-ends hs path) ∙ ap extends_type same ∙ h in cc

pub dot-out : (s : Tail) (d : Prim) (p : Place) → prim_at s ≡ Some d → extends_type d ≡ false → StaysOut s (dot p)
dot-out s d p e h = prim-out s d (dot p) e (λ word t f. go word t.heads t.frames t.tail f) where
  go : (word : Place) (hs : List types.Head) (fs : List types.Frame) (k : types.Tail) → tail_prim word hs fs k ≡ Some d → types.dotted p k hs fs ≡ None
  go word hs [] (types.AtPath path) f = absurd (not-path word hs path d f h)
  go word hs (g ∷ fs) (types.AtPath path) f = cc
  go word hs fs _ f = refl

pub square-out : (s : Tail) (d : Prim) (o : Place) → prim_at s ≡ Some d → extends_type d ≡ false → StaysOut s (open_square o)
square-out s d o e h = prim-out s d (open_square o) e (λ word t f. go word t.heads t.frames t.tail f) where
  go : (word : Place) (hs : List types.Head) (fs : List types.Frame) (k : types.Tail) → tail_prim word hs fs k ≡ Some d → types.square_opened o k hs fs ≡ None
  go word hs [] (types.AtPath path) f = absurd (not-path word hs path d f h)
  go word hs (g ∷ fs) (types.AtPath path) f = cc
  go word hs fs _ f = refl
