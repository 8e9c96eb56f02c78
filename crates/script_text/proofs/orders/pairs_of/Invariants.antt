use Rattle.std.proofs.Common.{◌≡◌, []}
use Rattle.std.specs.Option.{option_copied}
use Rattle.script_text.specs.Pieces.{pieces_behind}
use Rattle.script_text.specs.Reading.{pairs_from, words_of}
use Rattle.script_text.proofs.PieceLemmas.{bytes_left}
use Rattle.script_text.proofs.orders.pairs_of.Given as goal

-- the words that are left give the pairs that all give
abbrev pub invariant-loop-left : goal.invariant-loop-left
invariant-loop-left l = pairs_from l.names.keys l.pairs (pieces_behind 32 (option_copied l.left)) ≡ pairs_from [] [] (words_of l.words)

abbrev pub decreases-loop-left : goal.decreases-loop-left
decreases-loop-left l = bytes_left (option_copied l.left)
