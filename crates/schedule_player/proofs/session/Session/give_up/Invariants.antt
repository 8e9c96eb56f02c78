use Rattle.std.proofs.Common.{◌≡◌, [], length}
use Rattle.schedule_player.specs.InStep.{InStep}
use Rattle.schedule_player.specs.Steps.{OnlySettles}
use Rattle.schedule_player.proofs.session.Session.give_up.Given as goal

abbrev pub invariant-loop-outer : goal.invariant-loop-outer
invariant-loop-outer g l = record {
  in_step : InStep g.N.Engine.answer_of g.N.Engine.problems_of l.self (g.N.Engine.state l.engine);
  settles : OnlySettles l.initial.self.journal l.self.journal;
  none : l.initial.self.outers ≡ [] → l.self ≡ l.initial.self;
}

abbrev pub decreases-loop-outer : goal.decreases-loop-outer
decreases-loop-outer g l = length l.self.outers
