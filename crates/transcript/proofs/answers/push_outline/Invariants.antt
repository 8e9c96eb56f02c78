use Rattle.std.proofs.Common.{◌≡◌, ◌++◌, drop}
use Rattle.std.specs.List.{flat_map}
use Rattle.transcript.specs.Printed.{outline_line}
use Rattle.transcript.proofs.answers.push_outline.Given as goal

-- what is written so far, and the definitions that are left
abbrev pub invariant-loop-definition : goal.invariant-loop-definition
invariant-loop-definition l = l.text ++ flat_map outline_line (drop l.definition-index l.definitions) ≡ l.initial.text ++ flat_map outline_line l.definitions
