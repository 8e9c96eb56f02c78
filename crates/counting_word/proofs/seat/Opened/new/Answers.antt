use Rattle.std.proofs.Common.{[]}
use Rattle.counting_word.proofs.Moves.{starts}
use Rattle.counting_word.proofs.seat.Opened.new.Goals as goal

pub of_words-requires : goal.of_words-requires
of_words-requires c = starts []
