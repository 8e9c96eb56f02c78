use Rattle.std.proofs.Common.{refl}
use Rattle.report_hub.proofs.Reports.{OfEach-told_none}
use Rattle.report_hub.specs.Hub.{of_box}
use Rattle.engine_driver.proofs.Additions.{adds_none, made_quiet, made_told}
use Rattle.engine_driver.proofs.Feeding.{drives_new, served_stopped}
use Rattle.engine_driver.proofs.driving.drive.Goals as goal

pub loop-init : goal.loop-init
loop-init g c = record {
  drives = drives_new _ _ _ _ c.requires.legal c.requires.can c.new-driver.ensures.next c.new-driver.ensures.opened;
  made = made_quiet g.E.Engine.answer_of g.E.Engine.problems_of _ _ _ _ _ (OfEach-told_none _ _ _) refl (adds_none g.E.Engine.answer_of g.E.Engine.problems_of _);
}

pub round-requires : goal.round-requires
round-requires g c = record { drives = c.loop.invariant.drives }

pub loop-preserved : goal.loop-preserved
loop-preserved g c = record {
  drives = c.round.ensures.drives;
  made = made_told (of_box (λ z. (goal.Reporter-dyn g z).told z.1)) (of_box (λ z. (goal.Reporter-dyn g z).faults z.1)) g.E.Engine.answer_of g.E.Engine.problems_of _ _ _ _ _ _ _ _ _
      c.loop.invariant.made c.round.ensures.made;
}

pub returns-then-round-clause-served : goal.returns-then-round-clause-served
returns-then-round-clause-served g c = served_stopped _ _ _ _ _ c.round.ensures.drives (c.round.ensures.shut c.if-round.true) c.stop.ensures

pub returns-then-round-clause-made : goal.returns-then-round-clause-made
returns-then-round-clause-made g c =
    made_told (of_box (λ z. (goal.Reporter-dyn g z).told z.1)) (of_box (λ z. (goal.Reporter-dyn g z).faults z.1)) g.E.Engine.answer_of g.E.Engine.problems_of _ _ _ _ _ _ _ _ _
    c.loop.invariant.made c.round.ensures.made
