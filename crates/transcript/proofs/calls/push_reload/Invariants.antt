use Rattle.std.proofs.Common.{◌≡◌, ◌++◌, drop}
use Rattle.std.specs.List.{flat_map}
use Rattle.transcript.specs.Printed.{reloaded_text}
use Rattle.transcript.proofs.calls.push_reload.Given as goal

-- what is written so far, and the files that are left
abbrev pub invariant-loop-file : goal.invariant-loop-file
invariant-loop-file l = l.text ++ flat_map reloaded_text (drop l.file-index l.files) ≡ l.initial.text ++ flat_map reloaded_text l.files
