use Rattle.std.proofs.Common.{length}
use Rattle.ask_history.specs.Checks.{due}
use Rattle.ask_history.specs.Journal.{findings}
use Rattle.report_hub.specs.Hub.{reporters_of}
use Rattle.schedule_player.specs.Steps.{IsSameButChecks, ChecksOn}
use Rattle.schedule_player.specs.InStep.{InStep, ChecksInStep}
use Rattle.schedule_player.specs.Reporting.{KeepsTold}
use Rattle.schedule_player.proofs.session.Session.check_all.Given as goal

abbrev pub invariant-loop : goal.invariant-loop
invariant-loop g l = record {
  in_step : InStep g.N.Engine.answer_of g.N.Engine.problems_of l.self (g.N.Engine.state l.engine);
  checks : ChecksInStep g.N.Engine.problems_of l.self (g.N.Engine.state l.engine);
  same : IsSameButChecks l.initial.self l.self;
  goes_on : ChecksOn l.initial.self.journal l.self.journal;
  told : KeepsTold (λ b. (goal.Reporter-dyn g (b.vtable, b.value)).told b.value) (λ b. (goal.Reporter-dyn g (b.vtable, b.value)).faults b.value)
      (findings g.N.Engine.problems_of l.initial.self.journal) (reporters_of l.initial.hub) (findings g.N.Engine.problems_of l.self.journal) (reporters_of l.hub);
}

abbrev pub decreases-loop : goal.decreases-loop
decreases-loop g l = length (due l.self.journal)
