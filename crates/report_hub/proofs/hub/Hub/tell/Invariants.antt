use Rattle.report_hub.proofs.Slots.{HoldsBelow}
use Rattle.report_hub.specs.Hub.{OfSlot, IsTold}
use Rattle.report_hub.proofs.hub.Hub.tell.Given as goal

abbrev pub invariant-loop-slot : goal.invariant-loop-slot
invariant-loop-slot g l = HoldsBelow (OfSlot (IsTold (λ b. (goal.Reporter-dyn g (b.vtable, b.value)).told b.value) (λ b. (goal.Reporter-dyn g (b.vtable, b.value)).faults b.value) (l.file, l.problems))) l.initial.slot-items l.slot-items l.slot-index
