use Rattle.std.proofs.Common.{Some}
use Rattle.report_hub.proofs.Slots.{HoldsBelow-none, HoldsBelow-more, HoldsBelow-all}
use Rattle.report_hub.proofs.hub.Hub.tell.Goals as goal
use Rattle.report_hub.proofs.hub.Hub.tell.Goals.{in-Some, in_default}

pub loop-slot-init : goal.loop-slot-init
loop-slot-init g c = HoldsBelow-none _ _

pub loop-slot-preserved : goal.loop-slot-preserved
loop-slot-preserved g c = elim c.match-slot.branch [
  | in-Some w ↦ rw w.slot-items-is (HoldsBelow-more _ _ _ _ (Some w.tell_one.new.reporter) c.slot-item.result c.loop-slot-test.true c.loop-slot.invariant (rw w.in-Some.is w.tell_one.ensures))
  | in_default w ↦ rw w.slot-items-is (HoldsBelow-more _ _ _ _ _ c.slot-item.result c.loop-slot-test.true c.loop-slot.invariant (rw w.in_default.is tt))
]

pub returns : goal.returns
returns g c =
    HoldsBelow-all _ c.args.self.now.reporters.items c.loop-slot.slot-items c.loop-slot.slot-index c.args.self.now.reporters.len c.args.self.now.reporters.ok.0
    (rw c.deref_mut-slot-items.ensures.value at c.loop-slot.auto.slot-items)
    (rw c.deref_mut-slot-items.ensures.value at c.loop-slot-test.false)
    (rw c.deref_mut-slot-items.ensures.value at c.loop-slot.invariant)
