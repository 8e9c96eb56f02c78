use Rattle.std.proofs.Common.{◌≡◌, ◌++◌, drop}
use Rattle.std.specs.List.{flat_map}
use Rattle.transcript.specs.Printed.{removed_text}
use Rattle.transcript.proofs.calls.push_remove.Given as goal

-- what is written so far, and the names that are left
abbrev pub invariant-loop-name : goal.invariant-loop-name
invariant-loop-name l = l.text ++ flat_map removed_text (drop l.name-index l.names) ≡ l.initial.text ++ flat_map removed_text l.names
