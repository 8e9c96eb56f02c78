-- The cases of a match, a catch, or a function.
use Rattle.std.specs.Prelude.{ℕ, zero, suc, ◌==◌, Bool, true, false, ◌&&◌, if◌then◌else◌, List, [], ◌∷◌, ◌++◌, map, drop, length, Option, Some, None, is_some, codes}
use Rattle.pc_terms.specs.declared.problems.Span.{Span}
use Rattle.pc_terms.specs.declared.tree_kinds.TreeKind.TheVariants as kind
use Rattle.positioned_trees.specs.declared.details.Detail.TheVariants as detail
use Rattle.parse_parts.specs.Built.{no_kids, joined, node}
use Rattle.parse_parts.specs.declared.built.Kids.{Kids}
use Rattle.parse_parts.specs.declared.built.Tall.{Tall}
use Rattle.parse_parts.specs.Reading.{is_nil}
use Rattle.parse_patterns.specs.declared.states.State.{State as PatternState}
use Rattle.parse_patterns.specs.Reading.{begun as pattern_begun, is_ended}
use Rattle.parse_patterns.specs.Steps as patterns
use Rattle.reading_machines.specs.Machines.{onward}
use Rattle.tree_lower.specs.Lowering.{appended, detailed}
use Rattle.expr_tails.specs.declared.items.Built.{Built}
use Rattle.expr_tails.specs.declared.items.BuiltKids.{BuiltKids}
use Rattle.expr_tails.specs.declared.states.Limit.TheVariants as limit
use Rattle.expr_tails.specs.declared.states.State.{State}
use Rattle.expr_tails.specs.declared.symbols.Symbol.{Symbol}
use Rattle.expr_tails.specs.declared.symbols.Symbol.TheVariants as symbol
use Rattle.expr_tails.specs.declared.symbols.Word.TheVariants as word
use Rattle.expr_steps.specs.Reading.{Item, OneToken, Pair, stepped, begun, is_read, guard_at}
use Rattle.parse_exprs.specs.declared.cases.CaseHead.{CaseHead}
use Rattle.parse_exprs.specs.declared.lists.BuiltList.{BuiltList}
use Rattle.parse_exprs.specs.Items.{symbol_at, span_at, next_symbol, begins_case, is_case_word, depth_behind}
use Rattle.parse_exprs.specs.Lists.{end_of}
use Rattle.parse_exprs.specs.Statements.{block_list}

abbrev pub is_pattern : PatternState → Bool
is_pattern p = is_nil p.frames && is_ended p.current

-- ---- what stands before the statements of a case

-- a part that was read, and the items behind it
pub record Behind (A : Type 0) : Type 0 where
  pub part : A
  pub items : List Item

abbrev pub behind : {A : Type 0} → Option A → List Item → Option (Behind A)
behind None items = None
behind (Some part) items = Some (record { part = part; items = items })

abbrev pub pattern_or_none : PatternState → Option PatternState
pattern_or_none p = if is_pattern p then Some p else None

abbrev pub admits_item : PatternState → Item → Bool
admits_item p (Pair b) = false
admits_item p (OneToken x) = patterns.admits p x

-- the pattern goes on with the next item
abbrev pub admits_next : PatternState → List Item → Bool
admits_next p [] = false
admits_next p (i ∷ is) = admits_item p i

-- no pair of braces is admitted
abbrev pub advanced_by : PatternState → Item → PatternState
advanced_by p (Pair b) = p
advanced_by p (OneToken x) = patterns.advanced p x

-- the pattern that the items begin with, as far as each is admitted
abbrev pub pattern_of : PatternState → List Item → Option (Behind PatternState)
pattern_of p [] = behind (pattern_or_none p) []
pattern_of p (i ∷ is) = if admits_item p i then pattern_of (advanced_by p i) is else behind (pattern_or_none p) (i ∷ is)

abbrev pub is_arrow : Symbol → Bool
is_arrow symbol.Arrow = true
is_arrow _ = false

abbrev pub is_if_next : Option Symbol → Bool
is_if_next (Some (symbol.Word word.If)) = true
is_if_next _ = false

-- the arrow of the case stands here, behind a guard that is whole
abbrev pub ends_guard : State → Item → Bool
ends_guard s i = is_arrow (symbol_at i) && is_read s

abbrev pub is_guard_over : State → List Item → Bool
is_guard_over s [] = false
is_guard_over s (i ∷ is) = ends_guard s i

-- the guard that the items begin with, up to the arrow
abbrev pub guard_of : State → List Item → Option (Behind State)
guard_of s [] = None
guard_of s (i ∷ is) = if ends_guard s i then behind (Some s) (i ∷ is) else onward (stepped s i) None (λ next. guard_of next is)

abbrev pub arrow_behind : Span → Option Tall → Option Built → List Item → Option (Behind CaseHead)
arrow_behind word pattern guard [] = None
arrow_behind word pattern guard (i ∷ is) =
    if is_arrow (symbol_at i) then behind (Some (record { word = word; pattern = pattern; guard = guard; arrow = span_at i })) is else None

abbrev pub guard_behind : Span → Option Tall → Option (Behind State) → Option (Behind CaseHead)
guard_behind word pattern None = None
guard_behind word pattern (Some b) = arrow_behind word pattern (Some (guard_at b.part)) b.items

abbrev pub after_pattern : Span → Option Tall → List Item → Option (Behind CaseHead)
after_pattern word pattern items =
    if is_if_next (next_symbol items) then guard_behind word pattern (guard_of (begun limit.CaseGuard) (drop 1 items))
    else arrow_behind word pattern None items

abbrev pub pattern_behind : Span → Option (Behind PatternState) → Option (Behind CaseHead)
pattern_behind word None = None
pattern_behind word (Some b) = after_pattern word (patterns.pattern_at b.part) b.items

abbrev pub case_head : List Item → Option (Behind CaseHead)
case_head [] = None
case_head (i ∷ is) = if is_case_word (symbol_at i) then pattern_behind (span_at i) (pattern_of pattern_begun is) else None

-- ---- its statements

abbrev pub ends_case : ℕ → List Item → Bool
ends_case depth items = depth == 0 && begins_case items

-- the items up to the next case, and those from it on
abbrev pub case_items : ℕ → List Item → List Item
case_items depth [] = []
case_items depth (i ∷ is) = if ends_case depth (i ∷ is) then [] else i ∷ case_items (depth_behind depth (symbol_at i)) is

abbrev pub behind_case : ℕ → List Item → List Item
behind_case depth [] = []
behind_case depth (i ∷ is) = if ends_case depth (i ∷ is) then i ∷ is else behind_case (depth_behind depth (symbol_at i)) is

abbrev pub with_guard : Option Kids → Option Built → Option Kids
with_guard kids None = kids
with_guard kids (Some guard) = joined kids guard.tall

abbrev pub guard_free : Option Built → List Span
guard_free None = []
guard_free (Some guard) = guard.free

-- from `case` to the last item of it
abbrev pub case_span : CaseHead → ℕ → Span
case_span h end = record { start = h.word.start; end = end }

abbrev pub case_over : CaseHead → ℕ → BuiltList → Built
case_over h end list = record {
  tall = detailed (detail.Case (is_some h.guard))
      (node kind.Case (codes "case") h.word (case_span h end) (appended (with_guard (joined no_kids h.pattern) h.guard) list.kids));
  free = guard_free h.guard ++ list.free;
}

abbrev pub case_with : CaseHead → List Item → Built
case_with h items = case_over h (end_of h.arrow.end (map span_at items)) (block_list items)

abbrev pub case_behind : Option (Behind CaseHead) → Option (Behind Built)
case_behind None = None
case_behind (Some b) = behind (Some (case_with b.part (case_items 0 b.items))) (behind_case 0 b.items)

abbrev pub case_of : List Item → Option (Behind Built)
case_of items = case_behind (case_head items)

-- ---- all of them

-- The cases that the items are. The number is that of the items, and falls with each case.
abbrev pub cases_from : ℕ → Option Kids → List Span → List Item → Option BuiltKids
cases_from n kids free [] = Some (record { kids = kids; free = free })
cases_from zero kids free (i ∷ is) = None
cases_from (suc n) kids free (i ∷ is) =
    onward (case_of (i ∷ is)) None (λ b. cases_from n (joined kids b.part.tall) (free ++ b.part.free) b.items)

abbrev pub cases_of : List Item → Option BuiltKids
cases_of items = cases_from (length items) no_kids [] items
