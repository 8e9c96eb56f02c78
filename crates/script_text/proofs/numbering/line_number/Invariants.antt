use Rattle.std.proofs.Common.{◌≡◌, ◌+◌, ◌≤◌, length}
use Rattle.std.specs.Option.{option_copied}
use Rattle.script_text.specs.Pieces.{pieces_behind}
use Rattle.script_text.specs.Numbering.{number_from, line_number}
use Rattle.script_text.proofs.PieceLemmas.{bytes_left}
use Rattle.script_text.proofs.numbering.line_number.Given as goal

-- counted on from here, the line has the number that it has
abbrev pub invariant-loop-left : goal.invariant-loop-left
invariant-loop-left l =
    (number_from l.number l.before (pieces_behind 10 (option_copied l.left)) ≡ line_number l.text l.index)
    × (l.number + bytes_left (option_copied l.left) ≤ length l.text + 2)

abbrev pub decreases-loop-left : goal.decreases-loop-left
decreases-loop-left l = bytes_left (option_copied l.left)
