use Rattle.std.proofs.Common.{◌≡◌, ◌≤◌, count_by, take}
use Rattle.script_text.specs.Standing.{is_call_line}
use Rattle.session_input.proofs.counts.count_calls.Given as goal

abbrev pub invariant-loop-line : goal.invariant-loop-line
invariant-loop-line l = (l.calls ≡ count_by is_call_line (take l.line-index l.lines)) × (l.calls ≤ l.line-index)
