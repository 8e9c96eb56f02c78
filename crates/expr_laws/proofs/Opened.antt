-- An opening parenthesis, the reader as the machine.
use Rattle.std.proofs.Common.{◌≡◌, Bool, true, false, if◌then◌else◌, List, [], ◌∷◌, map, Option, Some, None, option_map, refl, ap, sym, ◌∙◌, append-nil}
use Rattle.pc_terms.specs.declared.problems.Span.{Span}
use Rattle.source_grammar.specs.Expressions.{Prim}
use Rattle.source_grammar.specs.ExpressionTokens.{prim_tokens}
use Rattle.source_grammar.specs.ExpressionTrees.{prim_built}
use Rattle.source_grammar.specs.Lexemes.{Place}
use Rattle.source_grammar.specs.Spans.{span_of}
use Rattle.parse_parts.specs.Built.{no_kids}
use Rattle.parse_parts.proofs.Kept.{kept}
use Rattle.parse_patterns.specs.Steps.{is_no}
use Rattle.expr_tails.specs.declared.states.Bracket.TheVariants as bracket
use Rattle.expr_tails.specs.declared.states.Context.{Context}
use Rattle.expr_tails.specs.declared.states.Limit.TheVariants as limit
use Rattle.expr_tails.specs.declared.states.Tail.TheVariants as tail
use Rattle.expr_tails.specs.declared.states.State.{State}
use Rattle.expr_tails.specs.Ending.{may_head}
use Rattle.expr_frames.specs.declared.frames.Left.{Left}
use Rattle.expr_frames.specs.Frames as spec
use Rattle.expr_laws.proofs.Agreeing.{head-shown, stand-shown}
use Rattle.expr_laws.proofs.Derived as derived
use Rattle.expr_laws.proofs.Naming.{receiver-prim, args-shown, left-shown, not-param}
use Rattle.expr_laws.proofs.Shown.{tail_shown, free_in, context_with, context_shown, frame_shown, shown}

-- ---- arguments

args-there : (fs : List derived.Frame) (c : derived.Context) (s : derived.Tail) (o : Place) (prim : Prim) → derived.prim_at s ≡ Some prim
    → spec.args_opened (map frame_shown fs) (context_shown (derived.at c s))
    ≡ shown (derived.state (derived.frame (derived.ArgsBracket prim o []) (derived.at c derived.Begin) ∷ fs) (derived.fresh limit.Expr))
args-there fs c s o prim e =
    ap to (left-shown c s prim e) ∙ ap behind (sym (append-nil (free_in (prim_built prim))))
  where
    to : Left → State
    to l = spec.opened (map frame_shown fs) (bracket.Args l.operand.tall no_kids false) l.operand.span.start l.context

    behind : List Span → State
    behind free =
        spec.opened (map frame_shown fs) (bracket.Args (kept (prim_built prim).tree) no_kids false) (span_of (prim_tokens prim)).start (context_with c free tail.Begin)

-- ---- what waits for its parenthesis

waiting-same : (fs : List derived.Frame) (c : derived.Context) (s : derived.Tail) (o : Place)
    → spec.waiting_opened (map frame_shown fs) (context_shown (derived.at c s)) (tail_shown s) (is_no o.before)
    ≡ option_map shown (derived.opened_with (derived.waiting_bracket o s) fs (derived.at c s))
waiting-same fs c (derived.AtAsker derived.IfAsker word) o = refl
waiting-same fs c (derived.AtAsker derived.WhileAsker word) o = refl
waiting-same fs c (derived.AtAsker derived.ForAsker word) o = refl
waiting-same fs c (derived.AtUntil word body sep until) o = refl
waiting-same fs c (derived.AtNew word type) o = go (is_no o.before) where
  go : (n : Bool)
      → spec.waiting_opened (map frame_shown fs) (context_shown (derived.at c (derived.AtNew word type))) (tail_shown (derived.AtNew word type)) n
      ≡ option_map shown (derived.opened_with (if n then Some (derived.NewArgsBracket word type o []) else None) fs (derived.at c (derived.AtNew word type)))
  go true = refl
  go false = refl
waiting-same fs c _ o = refl

-- ---- a group

abbrev stands_or_waits : List derived.Frame → derived.Context → derived.Tail → Place → Option State
stands_or_waits fs c s o =
    if spec.may_stand (context_shown (derived.at c s)) o.before
    then Some (spec.opened (map frame_shown fs) (bracket.Group [] (may_head (context_shown (derived.at c s)))) o.span.start (context_shown (derived.at c s)))
    else spec.waiting_opened (map frame_shown fs) (context_shown (derived.at c s)) (tail_shown s) (is_no o.before)

group-same : (fs : List derived.Frame) (c : derived.Context) (s : derived.Tail) (o : Place)
    → stands_or_waits fs c s o
    ≡ option_map shown (if derived.may_stand (derived.at c s) o.before then derived.opened_with (Some (derived.GroupBracket o [] (derived.may_head (derived.at c s)))) fs (derived.at c s)
    else derived.opened_with (derived.waiting_bracket o s) fs (derived.at c s))
group-same fs c derived.Begin o =
    ap (λ b. if b then opens (may_head now) else None) (stand-shown here o.before)
    ∙ ap (λ b. if derived.may_stand here o.before then opens b else None) (head-shown here [] tail.Begin)
    ∙ go (derived.may_stand here o.before)
  where
    here : derived.Context
    here = derived.at c derived.Begin

    now : Context
    now = context_shown here

    opens : Bool → Option State
    opens b = Some (spec.opened (map frame_shown fs) (bracket.Group [] b) o.span.start now)

    go : (b : Bool) → (if b then opens (derived.may_head here) else None)
        ≡ option_map shown (if b then derived.opened_with (Some (derived.GroupBracket o [] (derived.may_head here))) fs here else None)
    go true = refl
    go false = refl
group-same fs c s o = waiting-same fs c s o

pub opened-same : (fs : List derived.Frame) (c : derived.Context) (s : derived.Tail) (o : Place)
    → spec.round_opened (map frame_shown fs) (context_shown (derived.at c s)) o.span.start o.before ≡ option_map shown (derived.opened o fs (derived.at c s))
opened-same fs c s o =
    ap (λ b. if b then (if is_no o.before then args else None) else stands_or_waits fs c s o) (args-shown c s) ∙ go (derived.receiver here) refl
  where
    here : derived.Context
    here = derived.at c s

    args : Option State
    args = Some (spec.args_opened (map frame_shown fs) (context_shown here))

    by : (n : Bool) (prim : Prim) → derived.prim_at s ≡ Some prim
        → (if n then args else None) ≡ option_map shown (derived.opened_with (if n then Some (derived.ArgsBracket prim o []) else None) fs here)
    by true prim e = ap Some (args-there fs c s o prim e)
    by false prim e = refl

    go : (v : Option Prim) → derived.receiver here ≡ v
        → (if derived.is_some v then (if is_no o.before then args else None) else stands_or_waits fs c s o)
        ≡ option_map shown (if derived.is_some v then derived.opened_with (derived.args_bracket o v) fs here
        else (if derived.may_stand here o.before then derived.opened_with (Some (derived.GroupBracket o [] (derived.may_head here))) fs here
        else derived.opened_with (derived.waiting_bracket o s) fs here))
    go None e = group-same fs c s o
    go (Some prim) e = by (is_no o.before) prim (receiver-prim s prim (not-param (derived.is_param_limit c.limit) (derived.receiver_at s) prim e))
