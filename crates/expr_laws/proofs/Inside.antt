-- Where the reader is in a type, it goes on with it as the machine does.
use Rattle.std.proofs.Common.{◌≡◌, ℕ, Bool, true, false, if◌then◌else◌, List, [], ◌∷◌, map, Option, Some, None, option_map, refl, ap, sym, ◌∙◌}
use Rattle.source_grammar.specs.ExpressionTokens.{prim_tokens}
use Rattle.source_grammar.specs.ExpressionTrees.{prim_built}
use Rattle.source_grammar.specs.Lexemes.{Lexeme}
use Rattle.source_grammar.specs.Spans.{end_behind, span_of}
use Rattle.parse_parts.specs.declared.states.State.{State as TypeState}
use Rattle.parse_parts.specs.Steps as type_spec
use Rattle.parse_parts.proofs.Derived as types
use Rattle.parse_parts.proofs.Moves as type_moves
use Rattle.parse_parts.proofs.Seen as type_seen
use Rattle.parse_parts.proofs.Shown as type_shown
use Rattle.parse_parts.proofs.Shown.{end-behind}
use Rattle.parse_parts.proofs.Sound.{tokens_in, step-adds}
use Rattle.parse_patterns.proofs.Derived.{when}
use Rattle.parse_patterns.proofs.Moves as pattern_moves
use Rattle.parse_patterns.proofs.SimpleTypes.{goes, leaves}
use Rattle.expr_tails.specs.declared.states.Begun.{Begun}
use Rattle.expr_tails.specs.declared.states.Limit.{Limit}
use Rattle.expr_tails.specs.declared.states.Limit.TheVariants as limit
use Rattle.expr_tails.specs.declared.states.Tail.TheVariants as tail
use Rattle.expr_tails.specs.declared.states.State.{State}
use Rattle.expr_tails.specs.Types.{new_goes_on, type_takes}
use Rattle.expr_steps.specs.Steps.{type_symbol, type_on, type_step}
use Rattle.expr_laws.proofs.Derived as derived
use Rattle.expr_laws.proofs.Shown.{begun, typed_shown, tail_free, context_with, context_shown, frame_shown, shown}

-- ---- the machine of types

if-when : {A : Type 0} → (b : Bool) (a : A) → when b a ≡ (if b then Some a else None)
if-when true a = refl
if-when false a = refl

pub any-type : (t : types.State) (x : Lexeme)
    → when (type_spec.admits (type_shown.shown t) (type_symbol x)) (type_on (type_shown.shown t) x) ≡ option_map type_shown.shown (types.step t x)
any-type t x = if-when _ _ ∙ type_moves.step-same t x

new-type : (l : Limit) (t : types.State) (x : Lexeme)
    → when (new_goes_on l (type_shown.shown t) (type_symbol x)) (type_on (type_shown.shown t) x) ≡ option_map type_shown.shown (derived.goes_on l t x)
new-type limit.CaseGuard t x = pattern_moves.type-same t x
new-type _ t x = any-type t x

-- behind one token more
went : (l : Bool) (o : Option types.State) (u : types.State) → goes l o ≡ Some u → o ≡ Some u
went true o u e = cc
went false o u e = e

new-went : (l : Limit) (t : types.State) (x : Lexeme) (u : types.State) → derived.goes_on l t x ≡ Some u → types.step t x ≡ Some u
new-went limit.CaseGuard t x u e = went (leaves (type_seen.seen x) t.frames t.tail) (types.step t x) u e
new-went _ t x u e = e

type-end : (end : ℕ) (t : types.State) (x : Lexeme) (u : types.State) → types.step t x ≡ Some u → end_behind end (tokens_in u) ≡ x.place.span.end
type-end end t x u e = ap (end_behind end) (step-adds t x u e) ∙ end-behind end (tokens_in t) x []

-- ---- the tails that are in a type

abbrev next : Option types.State → (types.State → derived.State) → Option derived.State → Option derived.State
next None to other = other
next (Some t) to other = Some (to t)

-- where the machine of types goes on, the reader's does, and else both look at the token again
goes-by : (b : Bool) (u : TypeState) (o : Option types.State) (f : TypeState → State) (to : types.State → derived.State) (rest : Option State) (other : Option derived.State)
    → when b u ≡ option_map type_shown.shown o → ((t : types.State) → o ≡ Some t → f (type_shown.shown t) ≡ shown (to t)) → rest ≡ option_map shown other
    → (if b then Some (f u) else rest) ≡ option_map shown (next o to other)
goes-by true u (Some t) f to rest other e g r = (let same : u ≡ type_shown.shown t = cc in ap (λ v. Some (f v)) same ∙ ap Some (g t refl))
goes-by true u None f to rest other e g r = cc
goes-by false u (Some t) f to rest other e g r = cc
goes-by false u None f to rest other e g r = r

-- The token is one more of a type, or the reader does with it what the machine does with one that is none.
pub type-goes : (fs : List derived.Frame) (c : derived.Context) (s : derived.Tail) (x : Lexeme) (rest : Option State)
    → rest ≡ option_map shown (derived.or_decided None x fs (derived.at c s))
    → (if type_takes c.limit (context_shown (derived.at c s)).tail (type_symbol x) then Some (type_step (map frame_shown fs) (context_shown (derived.at c s)) x) else rest)
    ≡ option_map shown (derived.or_decided (derived.in_type c.limit s x) x fs (derived.at c s))
type-goes fs c (derived.InNew word t) x rest r =
    goes-by _ _ (derived.goes_on c.limit t x)
    (λ u. record { frames = map frame_shown fs; context = context_with c [] (tail.InNew word.span.start x.place.span.end u) }) to rest _
    (new-type c.limit t x) ends r
    ∙ by (derived.goes_on c.limit t x)
  where
    to : types.State → derived.State
    to u = derived.state fs (derived.at c (derived.InNew word u))

    ends : (u : types.State) → derived.goes_on c.limit t x ≡ Some u
        → record { frames = map frame_shown fs; context = context_with c [] (tail.InNew word.span.start x.place.span.end (type_shown.shown u)) } ≡ shown (to u)
    ends u e =
        ap (λ end. record { frames = map frame_shown fs; context = context_with c [] (tail.InNew word.span.start end (type_shown.shown u)) })
        (sym (type-end word.span.end t x u (new-went c.limit t x u e)))

    by : (o : Option types.State)
        → option_map shown (next o to (derived.or_decided None x fs (derived.at c (derived.InNew word t))))
        ≡ option_map shown (derived.or_decided (derived.new_type word o) x fs (derived.at c (derived.InNew word t)))
    by None = refl
    by (Some u) = refl
type-goes fs c (derived.InTypes prim o done t) x rest r =
    goes-by _ _ (types.step t x)
    (λ u. record { frames = map frame_shown fs; context = context_with c (tail_free (derived.InTypes prim o done t)) (tail.InTypes behind u) }) to rest _
    (any-type t x) (λ u e. refl) r
    ∙ by (types.step t x)
  where
    behind : Begun
    behind = begun (span_of (prim_tokens prim)).start ((prim_built prim).tree ∷ type_shown.done_trees done)

    to : types.State → derived.State
    to u = derived.state fs (derived.at c (derived.InTypes prim o done u))

    by : (v : Option types.State)
        → option_map shown (next v to (derived.or_decided None x fs (derived.at c (derived.InTypes prim o done t))))
        ≡ option_map shown (derived.or_decided (derived.types_type prim o done v) x fs (derived.at c (derived.InTypes prim o done t)))
    by None = refl
    by (Some u) = refl
type-goes fs c (derived.InTyped of point t) x rest r =
    goes-by _ _ (types.step t x)
    (λ u. record { frames = map frame_shown fs; context = context_with c (tail_free (derived.InTyped of point t)) (tail.InTyped (typed_shown of) u) }) to rest _
    (any-type t x) (λ u e. refl) r
    ∙ by (types.step t x)
  where
    to : types.State → derived.State
    to u = derived.state fs (derived.at c (derived.InTyped of point u))

    by : (v : Option types.State)
        → option_map shown (next v to (derived.or_decided None x fs (derived.at c (derived.InTyped of point t))))
        ≡ option_map shown (derived.or_decided (derived.typed_type of point v) x fs (derived.at c (derived.InTyped of point t)))
    by None = refl
    by (Some u) = refl
type-goes fs c _ x rest r = r
