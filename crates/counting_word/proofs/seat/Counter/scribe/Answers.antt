use Rattle.std.proofs.Common.{sym, ap, ◌∙◌, arith}
use Rattle.counting_word.specs.declared.view.View.{View}
use Rattle.counting_word.proofs.Moves.{scribes}
use Rattle.counting_word.proofs.seat.Counter.scribe.Goals as goal

pub split_seat-scribe-requires : goal.split_seat-scribe-requires
split_seat-scribe-requires g c = (
  c.seat.invariant.0 ∙ sym c.args.self.now.named,
  omega (arith, c.args.self.now.one_word),
  scribes _ _ (ap (λ (v : View). v.leads) c.seat.view_is ∙ c.requires),
)
