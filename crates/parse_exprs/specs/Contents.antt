-- What stands in a pair of braces.
use Rattle.std.specs.Prelude.{ℕ, ◌+◌, Bool, false, ◌&&◌, if◌then◌else◌, List, [], ◌∷◌, drop, Option, Some, None}
use Rattle.pc_terms.specs.declared.problems.Span.{Span}
use Rattle.pc_terms.specs.declared.tree_kinds.TreeKind.TheVariants as kind
use Rattle.parse_parts.specs.Built.{joined}
use Rattle.parse_parts.specs.Reading.{is_nil}
use Rattle.positioned_trees.specs.declared.details.Selector.{Selector}
use Rattle.reading_machines.specs.Machines.{onward, run}
use Rattle.tree_lower.specs.Lowering.{unlabelled}
use Rattle.expr_tails.specs.declared.items.Built.{Built}
use Rattle.expr_tails.specs.declared.items.BuiltKids.{BuiltKids}
use Rattle.expr_tails.specs.declared.items.Generators.{Generators}
use Rattle.expr_tails.specs.declared.items.Inside.{Inside}
use Rattle.expr_tails.specs.declared.items.Inside.TheVariants as inside
use Rattle.expr_tails.specs.declared.states.Limit.TheVariants as limit
use Rattle.expr_tails.specs.declared.states.State.{State}
use Rattle.expr_frames.specs.Generators.{generators_begun, are_generators, generators_at}
use Rattle.expr_steps.specs.Reading.{Item, OneToken, Pair, stepped, begun}
use Rattle.expr_steps.specs.Steps.{is_lambda_head, params_at, step}
use Rattle.import_steps.specs.declared.imports.Selectors.{Selectors}
use Rattle.import_steps.specs.Imports.{selectors_begun, step_selector, selectors_at}
use Rattle.parse_exprs.specs.declared.contents.Opening.{Opening}
use Rattle.parse_exprs.specs.declared.contents.Opening.TheVariants as opening
use Rattle.parse_exprs.specs.declared.contents.Params.{Params}
use Rattle.parse_exprs.specs.declared.lists.BuiltList.{BuiltList}
use Rattle.parse_exprs.specs.Cases.{is_arrow, cases_of}
use Rattle.parse_exprs.specs.Items.{symbol_at, span_at, is_case_word}
use Rattle.parse_exprs.specs.Statements.{block_list}

-- ---- the head of a lambda

abbrev pub ends_head : State → Item → Bool
ends_head s i = is_arrow (symbol_at i) && is_lambda_head s.context

abbrev pub head_ended : ℕ → State → Item → Option Params
head_ended n s i =
    if ends_head s i
    then Some (record { begun = params_at s.context.tail; arrow_end = (span_at i).end; count = n + 1 }) else None

abbrev pub token_stepped : State → Item → Option State
token_stepped s (OneToken x) = step s x
token_stepped s (Pair b) = None

-- A name, `_`, or one pair of parentheses, and the arrow behind it. This many items were read.
abbrev pub head_from : ℕ → State → List Item → Option Params
head_from n s [] = None
head_from n s (i ∷ is) =
    if is_nil s.frames then head_ended n s i else onward (token_stepped s i) None (λ next. head_from (n + 1) next is)

abbrev pub head_of : List Item → Option Params
head_of [] = None
head_of (i ∷ is) = onward (token_stepped (begun limit.Expr) i) None (λ s. head_from 1 s is)

-- ---- blocks

abbrev pub place_of : Option Span → ℕ → Span
place_of None end = record { start = end; end = end }
place_of (Some span) end = span

abbrev pub block_over : Span → BuiltList → Built
block_over span list = record { tall = unlabelled kind.Block span list.kids; free = list.free }

abbrev pub lambda_over : Span → Params → BuiltList → Built
lambda_over span params list = record {
  tall = unlabelled kind.Function span
      (joined params.begun.kids (unlabelled kind.Block (place_of list.span params.arrow_end) list.kids));
  free = list.free;
}

abbrev pub block_by : Option Params → Span → List Item → Built
block_by None span items = block_over span (block_list items)
block_by (Some params) span items = lambda_over span params (block_list (drop params.count items))

-- the block between braces with this span
abbrev pub block_of : Span → List Item → Built
block_of span items = block_by (head_of items) span items

-- ---- generators

abbrev pub generators_or_nothing : Option Generators → Inside
generators_or_nothing None = inside.Nothing
generators_or_nothing (Some gens) = inside.Generators gens

abbrev pub generators_inside : Option State → Inside
generators_inside None = inside.Nothing
generators_inside (Some s) = if are_generators s then generators_or_nothing (generators_at s.frames s.context) else inside.Nothing

abbrev pub generators_of : List Item → Inside
generators_of items = generators_inside (run stepped items generators_begun)

-- ---- what stands in braces

abbrev pub cases_or_nothing : Option BuiltKids → Inside
cases_or_nothing None = inside.Nothing
cases_or_nothing (Some cases) = inside.Cases cases

abbrev pub begins_with_case : List Item → Bool
begins_with_case [] = false
begins_with_case (i ∷ is) = is_case_word (symbol_at i)

abbrev pub block_or_cases : Span → List Item → Inside
block_or_cases span items =
    if begins_with_case items then cases_or_nothing (cases_of items) else inside.Block (block_of span items)

abbrev pub inside_of : Opening → Span → List Item → Inside
inside_of opening.For span items = generators_of items
inside_of _ span items = block_or_cases span items

-- ---- import selectors

abbrev pub selectors_from : Selectors → List Item → Option (List Selector)
selectors_from ss [] = selectors_at ss
selectors_from ss (Pair b ∷ is) = None
selectors_from ss (OneToken x ∷ is) = onward (step_selector ss x) None (λ next. selectors_from next is)

abbrev pub selectors_of : Opening → List Item → Option (List Selector)
selectors_of opening.Dot items = selectors_from selectors_begun items
selectors_of _ items = None
