use Rattle.std.proofs.Common.{◌≡◌, length}
use Rattle.table_checks.proofs.tests.entered.Given as goal

-- the sources so far are loaded
abbrev pub invariant-loop-source : goal.invariant-loop-source
invariant-loop-source l = length l.loaded.items ≡ l.source-index
