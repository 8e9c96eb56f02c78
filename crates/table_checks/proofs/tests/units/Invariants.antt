use Rattle.std.proofs.Common.{◌≡◌, length}
use Rattle.table_checks.proofs.tests.units.Given as goal

-- the files so far have their trees
abbrev pub invariant-loop-file : goal.invariant-loop-file
invariant-loop-file g l = length l.units.items ≡ l.file-index
