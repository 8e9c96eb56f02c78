use Rattle.std.proofs.Common.{sym, ◌∙◌, arith}
use Rattle.counting_word.proofs.Moves.{joins}
use Rattle.counting_word.proofs.seat.Counter.join.Goals as goal

pub join_seat-requires : goal.join_seat-requires
join_seat-requires g c = (c.seat.invariant.0 ∙ sym c.args.self.now.named, c.other.invariant.0 ∙ sym c.args.self.now.named, c.other.invariant.1, omega (arith, c.args.self.now.one_word), joins _ _ _ _)
