-- How a write to a lent task comes back.
use Rattle.std.specs.Prelude.{List}
use Rattle.std.specs.Borrow.{Fml, Lends, MutBor, RattleType}
use Rattle.safe_points.specs.Stack.{with_top_task}
use Rattle.safe_points.specs.declared.ticketed.Ticketed.{Ticketed}
use Rattle.safe_points.specs.contracts.stack.Stack.{the_row}

-- the stack ends with the last value after `task` as the task on top
abbrev pub LendsTopTask : (T : RattleType) → MutBor (List (Ticketed T.Denot)) → MutBor T.Denot → Fml
LendsTopTask T stack task = Lends (the_row T) T stack task (with_top_task stack.now)
