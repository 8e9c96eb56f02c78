use Rattle.std.proofs.Common.{◌<◌, sym, ap, subst, ◌∙◌, arith}
use Rattle.counting_word.specs.History.{engine_number}
use Rattle.counting_word.specs.declared.view.View.{View}
use Rattle.counting_word.proofs.Moves.{clients}
use Rattle.counting_word.proofs.seat.Counter.client.Goals as goal

pub split_seat-client-requires : goal.split_seat-client-requires
split_seat-client-requires g c = (
  c.engine.invariant.0 ∙ sym c.args.self.now.named,
  omega (arith, c.args.self.now.one_word),
  clients _ _ (ap (λ (v : View). v.name.number) c.engine.view_is ∙ c.requires.engine)
      (subst (λ (v : View). v.name.made < engine_number) (sym c.engine.view_is) c.requires.few),
)
