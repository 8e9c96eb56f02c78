use Rattle.std.proofs.Common.{◌≡◌, take}
use Rattle.session_run.proofs.reporter.copies_of.Given as goal

abbrev pub invariant-loop-problem : goal.invariant-loop-problem
invariant-loop-problem l = l.copies ≡ take l.problem-index l.problems
