use Rattle.std.proofs.Common.{◌≡◌, count_by, take}
use Rattle.script_text.specs.Standing.{is_call_line}
use Rattle.session_input.specs.Sources.{lines_in}
use Rattle.session_input.proofs.counts.count_all_calls.Given as goal

abbrev pub invariant-loop-script : goal.invariant-loop-script
invariant-loop-script l = l.calls ≡ count_by is_call_line (lines_in (take l.script-index l.scripts))
