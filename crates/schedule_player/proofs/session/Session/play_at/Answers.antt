use Rattle.std.proofs.Common.{◌≡◌, refl, sym, ap, ◌∙◌, subst}
use Rattle.schedule_player.specs.Around.{onto}
use Rattle.schedule_player.specs.Steps.{PlaysOrder, IsUnder}
use Rattle.schedule_player.proofs.LinePlays.{order_plays}
use Rattle.schedule_player.proofs.session.Session.play_at.Goals as goal

pub returns-in-Ok-clause-plays : goal.returns-in-Ok-clause-plays
returns-in-Ok-clause-plays g c = λ line at is under come.
    order_plays line c.args.self.now c.push.new.self c.play_order.new.self
    (c.in_ok-push.ensures.ok ∙ ap (λ l. record c.args.self.now { outers = onto l c.args.self.now.outers }) (sym at))
    (subst (λ o. PlaysOrder o c.push.new.self c.play_order.new.self) (sym is) c.in-Ok.ensures.plays)
    (subst (IsUnder c.args.self.now.outers) (sym at) under) come
