-- A pair of braces as one item of an expression.
use Rattle.std.specs.Prelude.{ℕ, Bool, true, false, not, ◌&&◌, ◌||◌, if◌then◌else◌, [], Option, Some, None}
use Rattle.pc_terms.specs.declared.problems.Span.{Span}
use Rattle.pc_terms.specs.declared.tree_kinds.TreeKind.TheVariants as kind
use Rattle.scan_tokens.specs.declared.tokens.Newline.{Newline}
use Rattle.source_grammar.specs.Newlines.{is_near}
use Rattle.parse_parts.specs.Built.{joined, alone}
use Rattle.parse_patterns.specs.Steps.{is_no}
use Rattle.parse_patterns.specs.declared.states.Operand.{Operand}
use Rattle.tree_lower.specs.Lowering.{unlabelled, appended}
use Rattle.expr_steps.specs.declared.braces.Asks.{Asks}
use Rattle.expr_steps.specs.declared.braces.Asks.TheVariants as asks
use Rattle.expr_steps.specs.declared.braces.Opened.{Opened}
use Rattle.expr_frames.specs.declared.frames.Left.{Left}
use Rattle.expr_tails.specs.declared.items.Braces.{Braces}
use Rattle.expr_tails.specs.declared.items.Built.{Built}
use Rattle.expr_tails.specs.declared.items.BuiltKids.{BuiltKids}
use Rattle.expr_tails.specs.declared.items.Inside.{Inside}
use Rattle.expr_tails.specs.declared.items.Inside.TheVariants as inside
use Rattle.expr_tails.specs.declared.states.Asker.{Asker}
use Rattle.expr_tails.specs.declared.states.Asker.TheVariants as asker
use Rattle.expr_tails.specs.declared.states.Begun.{Begun}
use Rattle.expr_tails.specs.declared.states.Context.{Context}
use Rattle.expr_tails.specs.declared.states.Form.TheVariants as form
use Rattle.expr_tails.specs.declared.states.HeadKind.TheVariants as head
use Rattle.expr_tails.specs.declared.states.NewOf.{NewOf}
use Rattle.expr_tails.specs.declared.states.Tail.{Tail}
use Rattle.expr_tails.specs.declared.states.Tail.TheVariants as tail
use Rattle.expr_tails.specs.declared.states.State.{State}
use Rattle.expr_tails.specs.declared.symbols.Symbol.TheVariants as symbol
use Rattle.expr_tails.specs.Ending.{at_tail}
use Rattle.expr_frames.specs.Frames.{is_param_limit, takes_args, may_stand, left}
use Rattle.expr_frames.specs.Generators.{with_free}
use Rattle.expr_frames.specs.Heads.{with_head}
use Rattle.expr_tails.specs.Tails.{from_start}
use Rattle.expr_steps.specs.Steps.{state, decided}

abbrev pub when_any : Bool → Option Asks
when_any holds = if holds then Some asks.Any else None

-- a Prim goes on, or begins
abbrev pub block_asked : Context → Newline → Option Asks
block_asked c before = when_any ((takes_args c && is_near before) || may_stand c before)

abbrev pub asks_of : Asker → Option Asks
asks_of asker.For = Some asks.Generators
asks_of _ = None

-- after a sign alone its own newline has to stand, or it would be a prefix operator
abbrev pub name_asks : Bool → Newline → Option Asks
name_asks is_sign before = when_any (is_near before && not (is_sign && is_no before))

-- what has to stand in braces here
abbrev pub asks_at : Tail → Context → Newline → Option Asks
asks_at (tail.AtAsker asker start) c before = asks_of asker
asks_at (tail.AtMatch operand) c before = Some asks.Cases
asks_at (tail.AtCatch begun) c before = Some asks.Cases
asks_at (tail.AtName name is_sign) c before = if is_param_limit c.limit then None else name_asks is_sign before
asks_at (tail.AtNew new) c before = when_any (is_near before)
asks_at _ c before = block_asked c before

abbrev pub opened_by : Option Asks → State → Option Opened
opened_by None s = None
opened_by (Some asked) s = Some (record { state = s; asks = asked })

abbrev pub before_braces : State → Newline → State
before_braces s before = state s.frames (decided s.context symbol.OpenCurly before)

-- the state before a pair of braces, if one can stand next, and what it has to be
abbrev pub opened : State → Newline → Option Opened
opened s before =
    opened_by (asks_at (before_braces s before).context.tail (before_braces s before).context before)
    (before_braces s before)

abbrev pub holds_block : Inside → Bool
holds_block (inside.Block built) = true
holds_block _ = false

abbrev pub holds_cases : Inside → Bool
holds_cases (inside.Cases cases) = true
holds_cases _ = false

abbrev pub holds_generators : Inside → Bool
holds_generators (inside.Generators generators) = true
holds_generators _ = false

abbrev pub answers : Asks → Inside → Bool
answers asks.Any within = holds_block within || holds_cases within
answers asks.Cases within = holds_cases within
answers asks.Generators within = holds_generators within

-- ---- after the braces

-- a block or cases as a tree
abbrev pub arg_of : Span → Inside → Built
arg_of span (inside.Block built) = built
arg_of span (inside.Cases cases) = record { tall = unlabelled kind.CaseFunction span cases.kids; free = cases.free }
arg_of span _ = record { tall = None; free = [] }

abbrev pub cases_of : Inside → BuiltKids
cases_of (inside.Cases cases) = cases
cases_of _ = record { kids = None; free = [] }

abbrev pub behind_for : Context → ℕ → Inside → Context
behind_for c start (inside.Generators gens) = with_head (with_free c gens.free) start (head.For gens.generators false)
behind_for c start _ = c

abbrev pub behind_match : Context → Operand → Span → BuiltKids → Context
behind_match c operand span cases = at_tail (with_free c cases.free) (tail.AtEnded (record {
  tall = unlabelled kind.Match (from_start operand.span.start span.end) (appended (alone operand.tall) cases.kids);
  span = from_start operand.span.start span.end;
}))

abbrev pub behind_catch : Context → Begun → Span → BuiltKids → Context
behind_catch c begun span cases =
    at_tail (with_free c cases.free)
    (tail.AtCaught (record { start = begun.start; kids = appended begun.kids cases.kids }) span.end)

abbrev pub behind_new : Context → NewOf → Span → Built → Context
behind_new c new span arg = at_tail (with_free c arg.free) (tail.AtPrim (record {
  tall = unlabelled kind.New (from_start new.span.start span.end) (joined new.kids arg.tall);
  span = from_start new.span.start span.end;
}) form.Plain)

abbrev pub as_prim : Context → Span → Built → Context
as_prim c span arg = at_tail (with_free c arg.free) (tail.AtPrim (record { tall = arg.tall; span = span }) form.Plain)

abbrev pub as_arg : Left → Span → Built → Context
as_arg l span arg = at_tail (with_free l.context arg.free) (tail.AtCall (record {
  span = from_start l.operand.span.start span.end;
  receiver = l.operand.tall;
  args = alone arg.tall;
}))

abbrev pub behind_at : Tail → Context → Span → Inside → Context
behind_at (tail.AtAsker asker start) c span within = behind_for (at_tail c tail.Begin) start within
behind_at (tail.AtMatch operand) c span within = behind_match c operand span (cases_of within)
behind_at (tail.AtCatch begun) c span within = behind_catch c begun span (cases_of within)
behind_at (tail.AtNew new) c span within = behind_new c new span (arg_of span within)
behind_at tail.Begin c span within = as_prim c span (arg_of span within)
behind_at _ c span within = as_arg (left c) span (arg_of span within)

-- the state after a pair of braces that has what is asked for
unfoldable pub behind : State → Braces → State
behind s b = state s.frames (behind_at s.context.tail s.context b.span b.inside)

abbrev pub behind_opened : Opened → Braces → Option State
behind_opened o b = if answers o.asks b.inside then Some (behind o.state b) else None

abbrev pub behind_asked : Option Opened → Braces → Option State
behind_asked None b = None
behind_asked (Some o) b = behind_opened o b

-- the state after a pair of braces, if it can stand next
abbrev pub step_braces : State → Braces → Option State
step_braces s b = behind_asked (opened s b.before) b
