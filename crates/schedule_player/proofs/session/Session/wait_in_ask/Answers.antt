use Rattle.std.proofs.Common.{◌≡◌, true, false, refl, Some, sym, ap, ◌∙◌, subst}
use Rattle.schedule_player.specs.Around.{top_work}
use Rattle.schedule_player.specs.Steps.{IsSameLine, ask_in}
use Rattle.schedule_player.proofs.Same.{in_step_at, checks_at}
use Rattle.schedule_player.specs.declared.outers.Work.TheVariants.{Ask}
use Rattle.schedule_player.proofs.Served.{top_served}
use Rattle.schedule_player.proofs.Reworks.{turned_in_step, rework_checks}
use Rattle.schedule_player.proofs.session.Session.wait_in_ask.Goals as goal
use Rattle.schedule_player.proofs.session.Session.wait_in_ask.Given as given

module _ (g : given.Over) (c : goal.After-set_work g) where
  line : top_work c.args.self.now.outers ≡ Ask c.in-Ask.ticket c.in-Ask.is_fed c.in-Ask.turns
  line = sym c.top_work.ensures ∙ c.in-Ask.is

  live : c.args.self.now.closed ≡ false
  live = sym c.is_closed.ensures ∙ c.if-not-is_closed.true

  same : g.N.Engine.state c.turn_ask-turns.new.engine ≡ g.N.Engine.state c.args.engine.now
  same =
      let t = top_served _ _ c.requires.in_step.served live c.in-Ask.ticket (ap ask_in line ∙ (λ j. Some (c.in-Ask.ticket, c.if-is_fed.true j))) in
      c.turn_ask-turns.ensures (c.in-Ask.ticket, t.call) (t.below, t.top)

pub returns-then-not-is_cancelled-clause-in_step : goal.returns-then-not-is_cancelled-clause-in_step
returns-then-not-is_cancelled-clause-in_step g c = in_step_at c.set_work.ensures (same g c)
    (turned_in_step _ _ _ _ _ c.requires.in_step (subst (λ w. IsSameLine w (Ask c.in-Ask.ticket c.in-Ask.is_fed c.turn_ask-turns.result)) (sym (line g c)) (_, refl)))

pub returns-then-not-is_cancelled-clause-checks : goal.returns-then-not-is_cancelled-clause-checks
returns-then-not-is_cancelled-clause-checks g c = λ checks. checks_at c.set_work.ensures (same g c) (rework_checks g.N.Engine.answer_of g.N.Engine.problems_of c.args.self.now (g.N.Engine.state c.args.engine.now) (Ask c.in-Ask.ticket c.in-Ask.is_fed c.turn_ask-turns.result) checks)
