-- The reporters of a hub.
use Rattle.std.specs.Prelude.{◌≡◌, ⊤, ℕ, List, slice_index_or, Option, Some, None}
use Rattle.std.specs.List.{AllZip}
use Rattle.std.specs.declared.alloc.Global.{Global}
use Rattle.std.specs.declared.dyn_box.DynBox.{DynBox}
use Rattle.report_hub.specs.declared.hub.Hub.{Hub}
use Rattle.report_hub.specs.Telling.{Finding, ReporterState, WasTold}
use Rattle.report_hub.specs.Told.{WasToldMost}

module _ {Reporter : Type 0} where
  -- the reporter that is attached under a number
  abbrev pub attached_at : List (Option Reporter) → ℕ → Option Reporter
  attached_at reporters number = slice_index_or reporters number None

  -- R holds of who is attached under a number, before and after; no one was attached or detached
  abbrev pub OfSlot : (Reporter → Reporter → Type 0) → Option Reporter → Option Reporter → Type 0
  OfSlot R None None = ⊤
  OfSlot R (Some old) (Some new) = R old new
  OfSlot R _ _ = ⊥

  -- R holds of each reporter that is attached, before and after, and no one was attached or detached.
  abbrev pub OfEach : (Reporter → Reporter → Type 0) → List (Option Reporter) → List (Option Reporter) → Type 0
  OfEach R old new = AllZip (OfSlot R) old new

  abbrev pub state_of : (Reporter → List Finding) → (Reporter → ℕ) → Reporter → ReporterState
  state_of told faults reporter = record { told = told reporter; faults = faults reporter }

module _ {Kind : Type 0} {At : Kind → Type 0} where
  -- The reporters that were attached, each at its number. Where one was detached stands `None`.
  abbrev pub reporters_of : Hub Kind At → List (Option (DynBox Kind Global At))
  reporters_of hub = hub.reporters.items

  -- What is seen of the reporter in a box. A crate above says `of_box told` where this one says `told`: there `told`
  -- takes a reporter, and here the box.
  abbrev pub of_box : {Seen : Type 0} → (((kind : Kind) × At kind) → Seen) → DynBox Kind Global At → Seen
  of_box seen reporter = seen (reporter.vtable, reporter.value)

  -- one box before and after it was written to
  abbrev pub IsSameBox : DynBox Kind Global At → DynBox Kind Global At → Type 0
  IsSameBox old new = (new.ptr ≡ old.ptr) × (new.vtable ≡ old.vtable)

  -- One report was made to the reporter in this box.
  abbrev pub IsTold : (DynBox Kind Global At → List Finding) → (DynBox Kind Global At → ℕ) → Finding → DynBox Kind Global At → DynBox Kind Global At → Type 0
  IsTold told faults finding old new = IsSameBox old new × WasTold finding (state_of told faults old) (state_of told faults new)

  -- These findings were reported to it, one after another.
  abbrev pub IsToldMost : (DynBox Kind Global At → List Finding) → (DynBox Kind Global At → ℕ) → List Finding → DynBox Kind Global At → DynBox Kind Global At → Type 0
  IsToldMost told faults findings old new = IsSameBox old new × WasToldMost findings (state_of told faults old) (state_of told faults new)
