use Rattle.std.proofs.Common.{◌≡◌, true, Some, sym, ap, ◌∙◌, subst}
use Rattle.ask_history.specs.Sources.{Sources}
use Rattle.schedule_player.specs.Steps.{Finds, IsRight, top_ask}
use Rattle.schedule_player.proofs.Served.{TopServed, top_served}
use Rattle.schedule_player.proofs.Settles.{right_found}
use Rattle.schedule_player.proofs.session.Session.found_for.Goals as goal
use Rattle.schedule_player.proofs.session.Session.found_for.Given as given

there : (g : given.Over) (c : goal.After-answer_of g) → TopServed c.args.self.now (g.N.Engine.state c.args.engine.now) c.args.ticket
there g c = top_served _ _ c.requires.in_step.served c.requires.live _ (c.requires.top ∙ (λ j. Some (c.args.ticket, c.if-not-is_fed.false j)))

pub returns-else-is_cancelled-clause-right : goal.returns-else-is_cancelled-clause-right
returns-else-is_cancelled-clause-right g c =
    let t = there g c in
    let finds = c.answer_of.ensures.finds (c.args.ticket, t.call) (t.below, t.top) in
    right_found g.N.Engine.answer_of _ _ t.call _ t.here.call t.here.asks
    (subst (λ files. Finds c.answer_of.result (g.N.Engine.answer_of files t.call)) c.requires.in_step.served.sources finds)

pub returns-else-is_cancelled-clause-same : goal.returns-else-is_cancelled-clause-same
returns-else-is_cancelled-clause-same g c = let t = there g c in c.answer_of.ensures.same (c.args.ticket, t.call) (t.below, t.top)
