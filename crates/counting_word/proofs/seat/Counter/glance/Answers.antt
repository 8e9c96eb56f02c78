use Rattle.std.proofs.Common.{sym, ◌∙◌, arith}
use Rattle.counting_word.proofs.Moves.{loads}
use Rattle.counting_word.proofs.seat.Counter.glance.Goals as goal

pub load-requires : goal.load-requires
load-requires g c = (c.seat.invariant.0 ∙ sym c.args.self.now.named, omega (arith, c.args.self.now.one_word), loads _ _ _)
