-- How the history goes on, step by step.
use Rattle.std.proofs.Common.{◌≡◌, ◌≤◌, ℕ, ◌+◌, ◌-◌, ◌^◌, min, Bool, true, false, true≢false, ◌||◌, if◌then◌else◌, List, [], ◌∷◌, ◌++◌, map, Option, Some, None, refl, sym, ap, ◌∙◌, subst, arith, append_assoc, append-nil, add-zero, add_assoc}
use Rattle.std.specs.List.{list_any}
use Rattle.std.proofs.lemmas.Grind.{flat_map-append}
use Rattle.std.proofs.lemmas.List.{map-append}
use Rattle.std.specs.declared.alloc.Global.{Global}
use Rattle.std.specs.declared.dyn_box.DynBox.{DynBox}
use Rattle.pc_terms.specs.declared.problems.Problem.{Problem}
use Rattle.ask_history.specs.Sources.{Bytes, Sources}
use Rattle.ask_history.specs.declared.answers.Answer.{Answer}
use Rattle.ask_history.specs.declared.calls.Call.{Call}
use Rattle.report_hub.specs.Telling.{Finding, ReporterState}
use Rattle.report_hub.specs.Told.{Leaves, Nothing, Keeps, LeavesOut, WasToldMost}
use Rattle.report_hub.specs.Hub.{OfSlot, OfEach, IsToldMost}
use Rattle.engine_driver.specs.History.{Entry, journal_of, IsLater}
use Rattle.engine_driver.specs.Runs.{finding_of, my_finding, my_findings, IsRight, AreRight, Adds, Made}

or_left : (b c : Bool) → (b || c) ≡ false → b ≡ false
or_left true c h = h
or_left false c h = refl

or_right : (b c : Bool) → (b || c) ≡ false → c ≡ false
or_right true c h = absurd (true≢false h)
or_right false c h = h

-- others find nothing
none_found : (others : List Entry) → list_any (λ (entry : Entry). entry.mine) others ≡ false → my_findings others ≡ []
none_found [] h = refl
none_found (entry ∷ others) h =
    (λ j. (if or_left entry.mine _ h j then finding_of entry.event entry.problems else []) ++ none_found others (or_right entry.mine _ h) j)

module _ (answer_of : Sources → Call → Answer) (problems_of : Sources → Bytes → List Problem) where
  none_mine : (before others : List Entry) → list_any (λ (entry : Entry). entry.mine) others ≡ false → AreRight answer_of problems_of before others
  none_mine before [] h = tt
  none_mine before (entry ∷ others) h =
      ((λ mine. absurd (true≢false (sym mine ∙ or_left entry.mine _ h))), none_mine (before ++ entry ∷ []) others (or_right entry.mine _ h))

  right-append : (before front back : List Entry) → AreRight answer_of problems_of before front → AreRight answer_of problems_of (before ++ front) back
      → AreRight answer_of problems_of before (front ++ back)
  right-append before [] back h k = subst (λ es. AreRight answer_of problems_of es back) (append-nil before) k
  right-append before (entry ∷ front) back h k =
      (h.0, right-append (before ++ entry ∷ []) front back h.1 (subst (λ es. AreRight answer_of problems_of es back) (sym (append_assoc before (entry ∷ []) front)) k))

  pub adds_later : (old now : List Entry) → IsLater old now → Adds answer_of problems_of old now []
  adds_later old now later = record {
    entries = later.others;
    behind = later.behind;
    right = none_mine old later.others later.theirs;
    checks = none_found later.others later.theirs;
  }

  pub adds_none : (old : List Entry) → Adds answer_of problems_of old old []
  adds_none old = record { entries = []; behind = sym (append-nil old); right = tt; checks = refl }

  pub adds_further : (a b c : List Entry) (front back : List Finding) → Adds answer_of problems_of a b front → Adds answer_of problems_of b c back → Adds answer_of problems_of a c (front ++ back)
  adds_further a b c front back one two = record {
    entries = one.entries ++ two.entries;
    behind = two.behind ∙ ap (λ es. es ++ two.entries) one.behind ∙ append_assoc a one.entries two.entries;
    right = right-append a one.entries two.entries one.right (subst (λ es. AreRight answer_of problems_of es two.entries) one.behind two.right);
    checks = flat_map-append my_finding one.entries two.entries ∙ (λ j. one.checks j ++ two.checks j);
  }

  -- one entry of the driver's
  pub adds_one : (before : List Entry) (entry : Entry) → (entry.mine ≡ true → IsRight answer_of problems_of (journal_of before) entry.event entry.answer entry.problems)
      → Adds answer_of problems_of before (before ++ entry ∷ []) (my_findings (entry ∷ []))
  adds_one before entry right = record { entries = entry ∷ []; behind = refl; right = (right, tt); checks = refl }

  -- others first, and then what the driver writes
  pub adds_behind : (old before now : List Entry) (findings : List Finding) → IsLater old before → Adds answer_of problems_of before now findings → Adds answer_of problems_of old now findings
  adds_behind old before now findings later adds = adds_further old before now [] findings (adds_later old before later) adds

  module _ (Told : List Finding → Type 0) where
    -- nothing is told and kept
    pub made_quiet : (old now : List Entry) (found found' : List (List Problem)) → Told [] → found' ≡ found → Adds answer_of problems_of old now []
        → Made answer_of problems_of Told old now found found'
    made_quiet old now found found' told same adds = record { findings = []; adds = adds; told = told; grew = same ∙ sym (append-nil found) }

    -- the problems of one file are told and kept
    pub made_one : (old now : List Entry) (found found' : List (List Problem)) (file : Bytes) (problems : List Problem) → Told ((file, problems) ∷ [])
        → found' ≡ found ++ problems ∷ [] → Adds answer_of problems_of old now ((file, problems) ∷ []) → Made answer_of problems_of Told old now found found'
    made_one old now found found' file problems told grew adds = record { findings = (file, problems) ∷ []; adds = adds; told = told; grew = grew }

    -- others first, and then what the driver makes
    pub made_behind : (old before now : List Entry) (found found' : List (List Problem)) → IsLater old before → Made answer_of problems_of Told before now found found'
        → Made answer_of problems_of Told old now found found'
    made_behind old before now found found' later made = record {
      findings = made.findings;
      adds = adds_behind old before now made.findings later made.adds;
      told = made.told;
      grew = made.grew;
    }

  pub made_further : (T U V : List Finding → Type 0) → ((front back : List Finding) → T front → U back → V (front ++ back))
      → (a b c : List Entry) (found found' found'' : List (List Problem)) → Made answer_of problems_of T a b found found' → Made answer_of problems_of U b c found' found'' → Made answer_of problems_of V a c found found''
  made_further T U V joined a b c found found' found'' one two = record {
    findings = one.findings ++ two.findings;
    adds = adds_further a b c one.findings two.findings one.adds two.adds;
    told = joined one.findings two.findings one.told two.told;
    grew = two.grew ∙ ap (λ fs. fs ++ map (λ (finding : Finding). finding.1) two.findings) one.grew
        ∙ append_assoc found (map (λ (finding : Finding). finding.1) one.findings) (map (λ (finding : Finding). finding.1) two.findings)
        ∙ ap (λ fs. found ++ fs) (sym (map-append (λ (finding : Finding). finding.1) one.findings two.findings));
  }

-- ---- what reporters are told

leaves-append : {back kept' : List Finding} {left' : ℕ} (front kept : List Finding) (left : ℕ) → Leaves front kept left → Leaves back kept' left'
    → Leaves (front ++ back) (kept ++ kept') (left + left')
leaves-append front kept left one Nothing = rw (append-nil front, append-nil kept, add-zero left) one
leaves-append front kept left one (Keeps all kept' left' finding two) =
    rw (← append_assoc front all (finding ∷ []), ← append_assoc kept kept' (finding ∷ []))
    (Keeps (front ++ all) (kept ++ kept') (left + left') finding (leaves-append front kept left one two))
leaves-append front kept left one (LeavesOut all kept' left' finding two) =
    rw (← append_assoc front all (finding ∷ []), ← add_assoc left left' 1) (LeavesOut (front ++ all) (kept ++ kept') (left + left') finding (leaves-append front kept left one two))

rose_further : (left left' before now after : ℕ) → min (before + left) (2 ^ 64 - 1) ≤ now → min (now + left') (2 ^ 64 - 1) ≤ after → min (before + (left + left')) (2 ^ 64 - 1) ≤ after
rose_further left left' before now after one two = omega arith

most_further : (front back : List Finding) (old now new : ReporterState) → WasToldMost front old now → WasToldMost back now new → WasToldMost (front ++ back) old new
most_further front back old now new one two = record {
  kept = one.kept ++ two.kept;
  left = one.left + two.left;
  in_order = leaves-append front one.kept one.left one.in_order two.in_order;
  told = two.told ∙ ap (λ fs. fs ++ two.kept) one.told ∙ append_assoc old.told one.kept two.kept;
  rose = rose_further one.left two.left old.faults now.faults new.faults one.rose two.rose;
  never_falls = omega (arith, one.never_falls, two.never_falls);
}

module _ {Reporter : Type 0} (R S T : Reporter → Reporter → Type 0) (joined : (old now new : Reporter) → R old now → S now new → T old new) where
  slot_joined : (old now new : Option Reporter) → OfSlot R old now → OfSlot S now new → OfSlot T old new
  slot_joined None None None r s = tt
  slot_joined None None (Some new) r s = absurd s
  slot_joined None (Some now) new r s = absurd r
  slot_joined (Some old) None new r s = absurd r
  slot_joined (Some old) (Some now) None r s = absurd s
  slot_joined (Some old) (Some now) (Some new) r s = joined old now new r s

  each_joined : (old now new : List (Option Reporter)) → OfEach R old now → OfEach S now new → OfEach T old new
  each_joined [] [] [] r s = tt
  each_joined [] [] (slot ∷ new) r s = absurd s
  each_joined [] (slot ∷ now) new r s = absurd r
  each_joined (slot ∷ old) [] new r s = absurd r
  each_joined (slot ∷ old) (slot' ∷ now) [] r s = absurd s
  each_joined (slot ∷ old) (slot' ∷ now) (slot'' ∷ new) r s = (slot_joined slot slot' slot'' r.0 s.0, each_joined old now new r.1 s.1)

module _ {Kind : Type 0} {At : Kind → Type 0} (told : DynBox Kind Global At → List Finding) (faults : DynBox Kind Global At → ℕ) where
  -- these findings were told, and then those
  pub told_further : (front back : List Finding) (old now new : List (Option (DynBox Kind Global At)))
      → OfEach (IsToldMost told faults front) old now → OfEach (IsToldMost told faults back) now new → OfEach (IsToldMost told faults (front ++ back)) old new
  told_further front back old now new one two =
      each_joined (IsToldMost told faults front) (IsToldMost told faults back) (IsToldMost told faults (front ++ back))
      (λ a b c r s. ((s.0.0 ∙ r.0.0, s.0.1 ∙ r.0.1), most_further front back _ _ _ r.1 s.1)) old now new one two

  -- one stretch of the driver's work, and then another
  pub made_told : (answer_of : Sources → Call → Answer) (problems_of : Sources → Bytes → List Problem) (a b c : List Entry) (found found' found'' : List (List Problem)) (old now new : List (Option (DynBox Kind Global At)))
      → Made answer_of problems_of (λ findings. OfEach (IsToldMost told faults findings) old now) a b found found'
      → Made answer_of problems_of (λ findings. OfEach (IsToldMost told faults findings) now new) b c found' found''
      → Made answer_of problems_of (λ findings. OfEach (IsToldMost told faults findings) old new) a c found found''
  made_told answer_of problems_of a b c found found' found'' old now new one two =
      made_further answer_of problems_of (λ findings. OfEach (IsToldMost told faults findings) old now) (λ findings. OfEach (IsToldMost told faults findings) now new)
      (λ findings. OfEach (IsToldMost told faults findings) old new) (λ front back one two. told_further front back old now new one two) a b c found found' found'' one two
