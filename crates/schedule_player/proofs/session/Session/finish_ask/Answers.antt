use Rattle.std.proofs.Common.{◌≡◌, sym, ap, ◌∙◌, subst}
use Rattle.schedule_player.specs.Around.{top_work}
use Rattle.schedule_player.specs.Steps.{Ends}
use Rattle.schedule_player.proofs.Settles.{top_open}
use Rattle.schedule_player.proofs.Ending.{ends_closed, ends_settled}
use Rattle.schedule_player.proofs.session.Session.finish_ask.Goals as goal

pub returns-then-is_closed-clause-ends : goal.returns-then-is_closed-clause-ends
returns-then-is_closed-clause-ends g c =
    subst (λ s. Ends (top_work c.args.self.now.outers) c.args.self.now.journal s.journal) (sym c.pop.ensures)
    (ends_closed c.args.self.now.outers c.args.ticket c.args.is_fed c.requires.top _ c.requires.in_step.holds (sym c.requires.in_step.closed ∙ sym c.is_closed.ensures ∙ c.if-is_closed.true))

pub returns-else-is_closed-clause-ends : goal.returns-else-is_closed-clause-ends
returns-else-is_closed-clause-ends g c =
    subst (Ends (top_work c.args.self.now.outers) c.args.self.now.journal) (sym c.settle_ask.ensures.journal)
    (ends_settled c.args.self.now.outers c.args.ticket c.args.is_fed c.requires.top _ _ (top_open _ _ _ _ c.requires.in_step (sym c.is_closed.ensures ∙ c.if-is_closed.false) c.args.ticket c.args.is_fed c.requires.top))
