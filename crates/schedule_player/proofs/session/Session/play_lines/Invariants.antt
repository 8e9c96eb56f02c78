use Rattle.std.proofs.Common.{length}
use Rattle.ask_history.specs.Journal.{findings}
use Rattle.ask_history.specs.Nested.{nested}
use Rattle.report_hub.specs.Hub.{reporters_of}
use Rattle.schedule_player.specs.Owed.{CanPlayAll}
use Rattle.schedule_player.specs.Around.{LeadsTo}
use Rattle.schedule_player.specs.InStep.{InStep, ChecksInStep}
use Rattle.schedule_player.specs.Reporting.{KeepsTold}
use Rattle.schedule_player.proofs.session.Session.play_lines.Given as goal

abbrev pub invariant-loop-line : goal.invariant-loop-line
invariant-loop-line g l = record {
  in_step : InStep g.N.Engine.answer_of g.N.Engine.problems_of l.self (g.N.Engine.state l.engine);
  checks : ChecksInStep g.N.Engine.problems_of l.self (g.N.Engine.state l.engine);
  can : CanPlayAll l.left.items;
  leads : LeadsTo l.fn.lines l.self.outers (nested (length l.self.tickets) l.left.items) l.self.journal;
  told : KeepsTold (λ b. (goal.Reporter-dyn g (b.vtable, b.value)).told b.value) (λ b. (goal.Reporter-dyn g (b.vtable, b.value)).faults b.value)
      (findings g.N.Engine.problems_of l.initial.self.journal) (reporters_of l.initial.hub) (findings g.N.Engine.problems_of l.self.journal) (reporters_of l.hub);
}

abbrev pub decreases-loop-line : goal.decreases-loop-line
decreases-loop-line g l = length l.left.items
