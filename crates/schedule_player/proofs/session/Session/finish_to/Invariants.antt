use Rattle.std.proofs.Common.{length}
use Rattle.ask_history.specs.Journal.{findings}
use Rattle.report_hub.specs.Hub.{reporters_of}
use Rattle.schedule_player.specs.Steps.{EndsTo}
use Rattle.schedule_player.specs.InStep.{InStep, ChecksInStep}
use Rattle.schedule_player.specs.Reporting.{KeepsTold}
use Rattle.schedule_player.proofs.session.Session.finish_to.Given as goal

abbrev pub invariant-loop-outer : goal.invariant-loop-outer
invariant-loop-outer g l = record {
  in_step : InStep g.N.Engine.answer_of g.N.Engine.problems_of l.self (g.N.Engine.state l.engine);
  checks : ChecksInStep g.N.Engine.problems_of l.self (g.N.Engine.state l.engine);
  ends : EndsTo l.level l.initial.self l.self;
  told : KeepsTold (λ b. (goal.Reporter-dyn g (b.vtable, b.value)).told b.value) (λ b. (goal.Reporter-dyn g (b.vtable, b.value)).faults b.value)
      (findings g.N.Engine.problems_of l.initial.self.journal) (reporters_of l.initial.hub) (findings g.N.Engine.problems_of l.self.journal) (reporters_of l.hub);
}

abbrev pub decreases-loop-outer : goal.decreases-loop-outer
decreases-loop-outer g l = length l.self.outers
