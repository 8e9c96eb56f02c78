use Rattle.std.proofs.Common.{◌≡◌, ◌-◌}
use Rattle.ask_history.specs.Journal.{findings}
use Rattle.report_hub.specs.Hub.{reporters_of}
use Rattle.schedule_player.specs.Around.{top_work}
use Rattle.schedule_player.specs.Steps.{Reaches}
use Rattle.schedule_player.specs.InStep.{InStep, ChecksInStep}
use Rattle.schedule_player.specs.Reporting.{KeepsTold}
use Rattle.schedule_player.specs.declared.outers.Work.TheVariants.{Checks}
use Rattle.schedule_player.proofs.session.Session.check_to.Given as goal

abbrev pub invariant-loop-self : goal.invariant-loop-self
invariant-loop-self g l = record {
  in_step : InStep g.N.Engine.answer_of g.N.Engine.problems_of l.self (g.N.Engine.state l.engine);
  checks : ChecksInStep g.N.Engine.problems_of l.self (g.N.Engine.state l.engine);
  line : top_work l.self.outers ≡ Checks l.next;
  reaches : Reaches l.number l.initial.self l.self;
  told : KeepsTold (λ b. (goal.Reporter-dyn g (b.vtable, b.value)).told b.value) (λ b. (goal.Reporter-dyn g (b.vtable, b.value)).faults b.value)
      (findings g.N.Engine.problems_of l.initial.self.journal) (reporters_of l.initial.hub) (findings g.N.Engine.problems_of l.self.journal) (reporters_of l.hub);
}

abbrev pub decreases-loop-self : goal.decreases-loop-self
decreases-loop-self g l = l.number - l.next
