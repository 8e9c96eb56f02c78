-- Reports that are made one after another.
use Rattle.std.proofs.Common.{◌≤◌, ℕ, ◌+◌, ◌-◌, ◌^◌, min, List, [], ◌∷◌, ◌++◌, Option, Some, None, refl, sym, ap, ◌∙◌, arith, append-nil, append_assoc, inl, inr}
use Rattle.std.specs.declared.alloc.Global.{Global}
use Rattle.std.specs.declared.dyn_box.DynBox.{DynBox}
use Rattle.report_hub.specs.Telling.{Finding, ReporterState, WasTold}
use Rattle.report_hub.specs.Hub.{OfSlot, OfEach, IsTold, IsToldMost}
use Rattle.report_hub.specs.Told.{Nothing, Keeps, LeavesOut, WasToldMost}

pub WasToldMost-none : (state : ReporterState) → WasToldMost [] state state
WasToldMost-none state = record {
  kept = [];
  left = 0;
  in_order = Nothing;
  told = sym (append-nil state.told);
  rose = omega arith;
  never_falls = omega arith;
}

rose_more : (left before now after : ℕ) → min (before + left) (2 ^ 64 - 1) ≤ now → min (now + 1) (2 ^ 64 - 1) ≤ after → min (before + (left + 1)) (2 ^ 64 - 1) ≤ after
rose_more left before now after most one = omega arith

WasToldMost-more : (findings : List Finding) (finding : Finding) (old now new : ReporterState) → WasToldMost findings old now → WasTold finding now new → WasToldMost (findings ++ finding ∷ []) old new
WasToldMost-more findings finding old now new most one = elim one.0 [
  | inl once ↦ record {
    kept = most.kept ++ finding ∷ [];
    left = most.left;
    in_order = Keeps findings most.kept most.left finding most.in_order;
    told = once.0 ∙ ap (λ front. front ++ finding ∷ []) most.told ∙ append_assoc old.told most.kept (finding ∷ []);
    rose = omega (arith, most.rose, one.1);
    never_falls = omega (arith, most.never_falls, one.1);
  }
  | inr failed ↦ record {
    kept = most.kept;
    left = most.left + 1;
    in_order = LeavesOut findings most.kept most.left finding most.in_order;
    told = failed.0 ∙ most.told;
    rose = rose_more most.left old.faults now.faults new.faults most.rose failed.1;
    never_falls = omega (arith, most.never_falls, one.1);
  }
]

-- ---- a hub

module _ {Reporter : Type 0} where
  OfSlot-same : (R : Reporter → Reporter → Type 0) → ((reporter : Reporter) → R reporter reporter) → (slot : Option Reporter) → OfSlot R slot slot
  OfSlot-same R same None = tt
  OfSlot-same R same (Some reporter) = same reporter

  OfEach-same : (R : Reporter → Reporter → Type 0) → ((reporter : Reporter) → R reporter reporter) → (slots : List (Option Reporter)) → OfEach R slots slots
  OfEach-same R same [] = tt
  OfEach-same R same (slot ∷ slots) = (OfSlot-same R same slot, OfEach-same R same slots)

  module _ (R S T : Reporter → Reporter → Type 0) (joined : (old now new : Reporter) → R old now → S now new → T old new) where
    OfSlot-joined : (old now new : Option Reporter) → OfSlot R old now → OfSlot S now new → OfSlot T old new
    OfSlot-joined None None None r s = tt
    OfSlot-joined None None (Some new) r s = absurd s
    OfSlot-joined None (Some now) new r s = absurd r
    OfSlot-joined (Some old) None new r s = absurd r
    OfSlot-joined (Some old) (Some now) None r s = absurd s
    OfSlot-joined (Some old) (Some now) (Some new) r s = joined old now new r s

    OfEach-joined : (old now new : List (Option Reporter)) → OfEach R old now → OfEach S now new → OfEach T old new
    OfEach-joined [] [] [] r s = tt
    OfEach-joined [] [] (slot ∷ new) r s = absurd s
    OfEach-joined [] (slot ∷ now) new r s = absurd r
    OfEach-joined (slot ∷ old) [] new r s = absurd r
    OfEach-joined (slot ∷ old) (slot' ∷ now) [] r s = absurd s
    OfEach-joined (slot ∷ old) (slot' ∷ now) (slot'' ∷ new) r s = (OfSlot-joined slot slot' slot'' r.0 s.0, OfEach-joined old now new r.1 s.1)

module _ {Kind : Type 0} {At : Kind → Type 0} (told : DynBox Kind Global At → List Finding) (faults : DynBox Kind Global At → ℕ) where
  pub OfEach-told_none : (reporters : List (Option (DynBox Kind Global At))) → OfEach (IsToldMost told faults []) reporters reporters
  OfEach-told_none reporters = OfEach-same _ (λ reporter. ((refl, refl), WasToldMost-none _)) reporters

  -- one finding more
  pub OfEach-told_more : (findings : List Finding) (finding : Finding) (old now new : List (Option (DynBox Kind Global At)))
      → OfEach (IsToldMost told faults findings) old now → OfEach (IsTold told faults finding) now new → OfEach (IsToldMost told faults (findings ++ finding ∷ [])) old new
  OfEach-told_more findings finding old now new most one =
      OfEach-joined _ _ _ (λ a b c r s. ((s.0.0 ∙ r.0.0, s.0.1 ∙ r.0.1), WasToldMost-more findings finding _ _ _ r.1 s.1)) old now new most one
