use Rattle.std.proofs.Common.{◌≡◌, ◌++◌, drop}
use Rattle.std.specs.List.{flat_map}
use Rattle.transcript.specs.Printed.{problem_line}
use Rattle.transcript.proofs.fields.push_problems.Given as goal

-- what is written so far, and the problems that are left
abbrev pub invariant-loop-problem : goal.invariant-loop-problem
invariant-loop-problem l = l.text ++ flat_map problem_line (drop l.problem-index l.problems) ≡ l.initial.text ++ flat_map problem_line l.problems
