use Rattle.std.proofs.Common.{◌≡◌, true, ◌||◌, is_some}
use Rattle.lazy_completion.specs.Memo.{value, is_locked}
use Rattle.lazy_completion.specs.Completion.{IsUnderWay, Keeps, distance, total}
use Rattle.lazy_completion.proofs.completion.settle_from.Given as goal

-- the completion is under way, no value was lost, and the item has its value or is still locked
abbrev pub invariant-loop-memo : goal.invariant-loop-memo
invariant-loop-memo g l =
    IsUnderWay (g.T.TypesItems.items l.typer) (g.T.TypesItems.typing l.typer) l.memo
    × Keeps l.fn.memo l.memo
    × ((is_locked l.memo l.fn.item || is_some (value l.memo l.fn.item)) ≡ true)

abbrev pub decreases-loop-memo : goal.decreases-loop-memo
decreases-loop-memo g l = total (distance l.memo) (g.T.TypesItems.items l.typer)
