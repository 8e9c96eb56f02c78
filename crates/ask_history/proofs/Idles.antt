-- Checks with nothing in between go on until no file is due.
use Rattle.std.proofs.Common.{◌≡◌, ℕ, zero, suc, ◌+◌, ◌≤◌, Bool, true, false, not, ◌&&◌, cond, if◌then◌else◌, List, [], ◌∷◌, ◌++◌, length, map, filter, refl, sym, ap, ◌∙◌, arith}
use Rattle.std.specs.List.{list_any}
use Rattle.std.specs.Str.{bytes_eq}
use Rattle.std.specs.Cmp.Lexicographic.{nat_list_eq_equiv}
use Rattle.std.proofs.lemmas.Bool.{and_parts, and_right, not-true, not-false, not_from_true, or_left, or_right, cond-true, cond-false}
use Rattle.std.proofs.lemmas.List.Folds.{list_any-append}
use Rattle.ask_history.specs.Sources.{Bytes, some_of}
use Rattle.ask_history.specs.Journal.{is_closed, all_settled, after, sources_step, checked, checked_step}
use Rattle.ask_history.specs.Checks.{due, check_begins, check_done, first_checked, checks_alone}
use Rattle.ask_history.specs.declared.events.Event.{Event}
use Rattle.ask_history.specs.declared.events.Event.TheVariants.{Checked}
use Rattle.ask_history.proofs.Walks.{along-push}

-- ---- a test that passes less

module _ (p q : Bytes → Bool) (less : (n : Bytes) → p n ≡ false → q n ≡ false) where
  abbrev kept : List Bytes → ℕ
  kept names = length (filter p names)

  abbrev left : List Bytes → ℕ
  left names = length (filter q names)

  one_less : (b c : Bool) (n : Bytes) (ps qs : List Bytes) → (b ≡ false → c ≡ false) → length qs ≤ length ps
      → length (cond c (n ∷ qs) qs) ≤ length (cond b (n ∷ ps) ps)
  one_less true true n ps qs h k = omega arith
  one_less true false n ps qs h k = omega arith
  one_less false true n ps qs h k = let no : true ≡ false = h refl in cc
  one_less false false n ps qs h k = k

  left-less : (names : List Bytes) → left names ≤ kept names
  left-less [] = omega arith
  left-less (n ∷ names) = one_less (p n) (q n) n (filter p names) (filter q names) (less n) (left-less names)

  -- what does not pass any more was the first that passed
  left-fewer : (names : List Bytes) (first : Bytes) (rest : List Bytes) → filter p names ≡ first ∷ rest → q first ≡ false → left names + 1 ≤ kept names
  left-fewer [] first rest h gone = cc
  left-fewer (n ∷ names) first rest h gone = by (p n) refl (left-fewer names first rest)
    where
      by : (b : Bool) → p n ≡ b → (filter p names ≡ first ∷ rest → q first ≡ false → left names + 1 ≤ kept names) → left (n ∷ names) + 1 ≤ kept (n ∷ names)
      by true e next =
          let same : n ∷ filter p names ≡ first ∷ rest = sym (cond-true (p n) (n ∷ filter p names) (filter p names) e) ∙ h in
          let is : n ≡ first = cc in
          let lefts : left (n ∷ names) ≡ left names = ap length (cond-false (q n) (n ∷ filter q names) (filter q names) (ap q is ∙ gone)) in
          let keeps : kept (n ∷ names) ≡ length (n ∷ filter p names) = ap length (cond-true (p n) (n ∷ filter p names) (filter p names) e) in
          let below = left-less names in
          omega arith
      by false e next =
          let same : filter p names ≡ first ∷ rest = sym (cond-false (p n) (n ∷ filter p names) (filter p names) e) ∙ h in
          let lefts : left (n ∷ names) ≡ left names = ap length (cond-false (q n) (n ∷ filter q names) (filter q names) (less n e)) in
          let keeps : kept (n ∷ names) ≡ kept names = ap length (cond-false (p n) (n ∷ filter p names) (filter p names) e) in
          let below = next same gone in
          omega arith

-- ---- a file that is checked

abbrev unchecked : List Bytes → Bytes → Bool
unchecked names name = not (list_any (bytes_eq name) names)

unchecked-less : (names : List Bytes) (name n : Bytes) → unchecked names n ≡ false → unchecked (names ++ name ∷ []) n ≡ false
unchecked-less names name n h =
    not_from_true _ (list_any-append (bytes_eq n) names (name ∷ []) ∙ or_left _ _ (not-false (list_any (bytes_eq n) names) h))

unchecked-here : (names : List Bytes) (name : Bytes) → unchecked (names ++ name ∷ []) name ≡ false
unchecked-here names name =
    not_from_true _ (list_any-append (bytes_eq name) names (name ∷ []) ∙ or_right _ _ (or_left _ _ (nat_list_eq_equiv.refl name)))

pub due-fewer : (journal : List Event) (name : Bytes) (names : List Bytes) → due journal ≡ name ∷ names
    → length (due (journal ++ Checked name ∷ [])) + 1 ≤ length (due journal)
due-fewer journal name names h =
    let event : Event = Checked name in
    let loaded : after (journal ++ event ∷ []) ≡ after journal = along-push sources_step [] journal event in
    let known : checked (journal ++ event ∷ []) ≡ checked journal ++ name ∷ [] = along-push checked_step [] journal event in
    let same : due (journal ++ event ∷ []) ≡ filter (unchecked (checked journal ++ name ∷ [])) (map (λ file. file.0) (after journal)) =
    λ j. filter (unchecked (known j)) (map (λ file. file.0) (loaded j)) in
    let fewer = left-fewer (unchecked (checked journal)) (unchecked (checked journal ++ name ∷ [])) (unchecked-less (checked journal) name)
    (map (λ file. file.0) (after journal)) name names h (unchecked-here (checked journal) name) in
    omega (arith, ap length same)

-- ---- the checks

pub none_left : (journal : List Event) → length (due journal) ≤ 0 → check_begins journal ≡ false
none_left journal h = and_right (not (is_closed journal) && all_settled journal) (some_of (due journal)) (none (due journal) h)
  where
    none : (names : List Bytes) → length names ≤ 0 → some_of names ≡ false
    none [] h = refl
    none (name ∷ names) h = absurd (omega arith)

pub checks_end : (count : ℕ) (journal : List Event) → length (due journal) ≤ count → check_begins (checks_alone count journal) ≡ false
checks_end zero journal h = none_left journal h
checks_end (suc count) journal h = by (check_begins journal) refl (checks_end count (check_done journal))
  where
    fewer : (names : List Bytes) → due journal ≡ names → is_closed journal ≡ false → some_of names ≡ true → length (due (check_done journal)) ≤ count
    fewer [] e shut some = cc
    fewer (name ∷ names) e shut some =
        let done : check_done journal ≡ journal ++ Checked name ∷ [] =
        cond-false (is_closed journal) journal (first_checked (due journal) journal) shut ∙ ap (λ ns. first_checked ns journal) e in
        let less = due-fewer journal name names e in
        omega (arith, ap (λ js. length (due js)) done)

    by : (b : Bool) → check_begins journal ≡ b → (length (due (check_done journal)) ≤ count → check_begins (checks_alone count (check_done journal)) ≡ false)
        → check_begins (if b then checks_alone count (check_done journal) else journal) ≡ false
    by true e next =
        let parts = and_parts (not (is_closed journal) && all_settled journal) (some_of (due journal)) e in
        let before = and_parts (not (is_closed journal)) (all_settled journal) parts.0 in
        next (fewer (due journal) refl (not-true (is_closed journal) before.0) parts.1)
    by false e next = e
