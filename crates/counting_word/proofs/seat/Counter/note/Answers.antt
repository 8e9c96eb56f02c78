use Rattle.std.proofs.Common.{sym, ◌∙◌, arith}
use Rattle.counting_word.proofs.Moves.{notes}
use Rattle.counting_word.proofs.seat.Counter.note.Goals as goal

pub split_seat-note-requires : goal.split_seat-note-requires
split_seat-note-requires g c = (c.seat.invariant.0 ∙ sym c.args.self.now.named, omega (arith, c.args.self.now.one_word), notes _ _)
