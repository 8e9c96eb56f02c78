use Rattle.std.proofs.Common.{take}
use Rattle.transcript.specs.Outcomes.{IsTableOf}
use Rattle.transcript.proofs.outcomes.Outcomes.of_journal.Given as goal

abbrev pub invariant-loop-index : goal.invariant-loop-index
invariant-loop-index l = IsTableOf (take l.index l.events) l.table
