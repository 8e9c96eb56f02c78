use Rattle.std.proofs.Common.{◌≡◌, ◌+◌, ◌≤◌, length}
use Rattle.std.specs.Option.{option_copied}
use Rattle.script_text.specs.Pieces.{pieces_behind}
use Rattle.script_text.specs.Reading.{lines_from, lines_read}
use Rattle.script_text.specs.Above.{IsAbove}
use Rattle.script_text.proofs.PieceLemmas.{bytes_left}
use Rattle.script_text.proofs.reading.lines_of.Given as goal

-- the lines that are left give what all give, and they are numbered on
abbrev pub invariant-loop-left : goal.invariant-loop-left
invariant-loop-left l = record {
  reads : lines_from l.kind l.above.lines l.number (pieces_behind 10 (option_copied l.left)) ≡ lines_read l.kind l.text;
  above : IsAbove l.above;
  numbered : l.number + bytes_left (option_copied l.left) ≤ length l.text + 2;
  few : length l.above.lines + bytes_left (option_copied l.left) ≤ length l.text + 1;
}

abbrev pub decreases-loop-left : goal.decreases-loop-left
decreases-loop-left l = bytes_left (option_copied l.left)
