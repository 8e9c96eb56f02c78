use Rattle.std.proofs.Common.{◌≡◌, ◌++◌, drop}
use Rattle.std.specs.List.{flat_map}
use Rattle.transcript.specs.Printed.{scope_line}
use Rattle.transcript.proofs.answers.push_scope.Given as goal

-- what is written so far, and the names that are left
abbrev pub invariant-loop-name : goal.invariant-loop-name
invariant-loop-name l = l.text ++ flat_map scope_line (drop l.name-index l.names) ≡ l.initial.text ++ flat_map scope_line l.names
