use Rattle.std.proofs.Common.{◌≡◌, map, take}
use Rattle.session_run.specs.Shown.{shown_line}
use Rattle.session_run.proofs.shown.shown_lines.Given as goal

abbrev pub invariant-loop-line : goal.invariant-loop-line
invariant-loop-line l = l.shown ≡ map shown_line (take l.line-index l.lines)
