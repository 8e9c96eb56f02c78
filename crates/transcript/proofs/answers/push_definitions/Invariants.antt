use Rattle.std.proofs.Common.{◌≡◌, ◌++◌, drop}
use Rattle.std.specs.List.{flat_map}
use Rattle.transcript.specs.Printed.{definition_line}
use Rattle.transcript.proofs.answers.push_definitions.Given as goal

-- what is written so far, and the trees that are left
abbrev pub invariant-loop-tree : goal.invariant-loop-tree
invariant-loop-tree l = l.text ++ flat_map definition_line (drop l.tree-index l.trees) ≡ l.initial.text ++ flat_map definition_line l.trees
