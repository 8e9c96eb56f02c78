-- The files that are due are those behind the ones with an outcome.
use Rattle.std.proofs.Common.{◌≡◌, ℕ, ◌<◌, zero, suc, Bool, true, false, cond, not, ◌||◌, if◌then◌else◌, List, [], ◌∷◌, ◌++◌, length, drop, filter, Option, Some, None, refl, sym, ap, ◌∙◌, arith, length-append}
use Rattle.std.proofs.lemmas.Bool.{true≢false}
use Rattle.std.proofs.lemmas.List.{drop_all, length-drop}
use Rattle.std.proofs.lemmas.List.Elements.{filter_agree}
use Rattle.std.proofs.lemmas.List.Folds.{list_any-append}
use Rattle.std.proofs.lemmas.Slice.Eq.{bytes_eq-Decides}
use Rattle.std.specs.List.{list_any, AllByRecursion, IsDistinct}
use Rattle.std.specs.Map.{keys_of}
use Rattle.std.specs.Str.{bytes_eq}
use Rattle.ask_history.specs.Sources.{Bytes, some_of, unchecked}
use Rattle.compiler_loop.specs.Loaded.{AreAhead, TakesDue, files_with, is_checked, is_skipped, texts_of}
use Rattle.compiler_loop.specs.declared.checks.Outcome.{Outcome}
use Rattle.compiler_loop.specs.declared.checks.Outcome.TheVariants.{Checked, Skipped}
use Rattle.compiler_loop.specs.declared.source.Source.{Source}
use Rattle.compiler_loop.proofs.LoadedLemmas.{names_of_texts}

-- where nothing has an outcome, all are due
pub ahead_fresh : (due names : List Bytes) (outcomes : List Outcome) → outcomes ≡ [] → due ≡ names → AreAhead due outcomes names
ahead_fresh due names outcomes none all = rw none (record { rest = all; count = omega arith })

all_due : (due names : List Bytes) (outcomes : List Outcome) → outcomes ≡ [] → AreAhead due outcomes names → due ≡ names
all_due due names outcomes none ahead = ahead.rest ∙ ap (λ (os : List Outcome). drop (length os) names) none

pub ahead_same : (due given names after : List Bytes) (outcomes told : List Outcome) → given ≡ due → told ≡ outcomes → after ≡ names
    → AreAhead due outcomes names → AreAhead given told after
ahead_same due given names after outcomes told same_due same_outcomes same_names ahead = rw (same_due, same_outcomes, same_names) ahead

-- a new file behind them
pub ahead_put : (due names after : List Bytes) (outcomes : List Outcome) (name : Bytes) (loaded : Bool) → outcomes ≡ [] → AreAhead due outcomes names
    → after ≡ (if loaded then names else names ++ name ∷ []) → AreAhead (if not loaded then due ++ name ∷ [] else due) outcomes after
ahead_put due names after outcomes name true none ahead e = ahead_fresh _ _ outcomes none (all_due due names outcomes none ahead ∙ sym e)
ahead_put due names after outcomes name false none ahead e = ahead_fresh _ _ outcomes none (ap (λ ns. ns ++ name ∷ []) (all_due due names outcomes none ahead) ∙ sym e)

-- some files left out
pub ahead_filter : (test : Bytes → Bool) (due names : List Bytes) (outcomes : List Outcome) → outcomes ≡ [] → AreAhead due outcomes names
    → AreAhead (filter test due) outcomes (filter test names)
ahead_filter test due names outcomes none ahead = ahead_fresh _ _ outcomes none (ap (filter test) (all_due due names outcomes none ahead))

cons≢nil : {A : Type 0} {x : A} {xs : List A} → x ∷ xs ≡ [] → ⊥
cons≢nil e = true≢false (ap some_of e)

-- behind the first that is due
pub drop_next : (n : ℕ) (names : List Bytes) (name : Bytes) (rest : List Bytes) → name ∷ rest ≡ drop n names → (rest ≡ drop (suc n) names) × (n < length names)
drop_next zero [] name rest e = absurd (cons≢nil e)
drop_next (suc n) [] name rest e = absurd (cons≢nil e)
drop_next zero (first ∷ names) name rest e = (cc, omega arith)
drop_next (suc n) (first ∷ names) name rest e = let below = drop_next n names name rest e in (below.0, omega (arith, below.1))

-- one taken
pub ahead_taken : (found : Option Bytes) (outcome : Outcome) (due left names : List Bytes) (outcomes told : List Outcome)
    → TakesDue found outcome due left outcomes told
    → AreAhead due outcomes names → AreAhead left told names
ahead_taken None outcome due left names outcomes told taken ahead =
    rw taken.2 (record { rest = taken.1 ∙ sym taken.0 ∙ ahead.rest; count = ahead.count })
ahead_taken (Some name) outcome due left names outcomes told taken ahead =
    let next = drop_next (length outcomes) names name left (sym taken.0 ∙ ahead.rest) in
    let more : length told ≡ suc (length outcomes) = omega (arith, ap length taken.1, length-append outcomes (outcome ∷ [])) in
    record { rest = next.0 ∙ ap (λ (n : ℕ). drop n names) (sym more); count = omega (arith, next.1) }

-- all have an outcome just where none is due
pub none_due : (due names : List Bytes) (outcomes : List Outcome) → AreAhead due outcomes names
    → ((length outcomes ≡ length names → due ≡ []) × (due ≡ [] → length outcomes ≡ length names))
none_due due names outcomes ahead = (
  λ same. ahead.rest ∙ drop_all (length outcomes) names (omega arith),
  λ none. let left : length (drop (length outcomes) names) ≡ 0 = sym (ap length ahead.rest) ∙ ap length none in
      let count = ahead.count in omega (arith, length-drop (length outcomes) names),
)

-- ---- the files that are due, as a session sees them

is_dealt : List Outcome → List Bytes → Bytes → Bool
is_dealt outcomes names name = list_any (bytes_eq name) (files_with is_checked outcomes names ++ files_with is_skipped outcomes names)

joined : (a b c : Bool) → (a || (b || c)) ≡ (b || (a || c))
joined true true c = refl
joined true false c = refl
joined false true c = refl
joined false false c = refl

-- a name is dealt with where it is the first or dealt with behind
dealt_more : (outcome : Outcome) (outcomes : List Outcome) (first : Bytes) (names : List Bytes) (name : Bytes)
    → is_dealt (outcome ∷ outcomes) (first ∷ names) name ≡ (bytes_eq name first || is_dealt outcomes names name)
unfolding is_dealt
dealt_more Checked outcomes first names name = refl
dealt_more Skipped outcomes first names name =
    let checked = files_with is_checked outcomes names in
    let skipped = files_with is_skipped outcomes names in
    list_any-append (bytes_eq name) checked (first ∷ skipped)
    ∙ joined (list_any (bytes_eq name) checked) (bytes_eq name first) (list_any (bytes_eq name) skipped)
    ∙ ap (λ b. bytes_eq name first || b) (sym (list_any-append (bytes_eq name) checked skipped))

bytes_eq_refl : (name : Bytes) → bytes_eq name name ≡ true
bytes_eq_refl name = (bytes_eq-Decides name name).1 refl

differs_back : (a b : Bytes) → bytes_eq a b ≡ false → bytes_eq b a ≡ false
differs_back a b differs = by (bytes_eq b a) refl where
  by : (same : Bool) → bytes_eq b a ≡ same → same ≡ false
  by true is = absurd (true≢false (sym ((bytes_eq-Decides a b).1 (sym ((bytes_eq-Decides b a).0 is))) ∙ differs))
  by false is = refl

-- where the first is none of the others, it does not matter whether it is dealt with
others : (first : Bytes) (dealt : Bytes → Bool) (names : List Bytes) → AllByRecursion (λ name. bytes_eq first name ≡ false) names
    → filter (λ name. not (bytes_eq name first || dealt name)) names ≡ filter (λ name. not (dealt name)) names
others first dealt [] none = refl
others first dealt (name ∷ names) none =
    rw (differs_back first name none.0) (ap (λ rest. cond (not (dealt name)) (name ∷ rest) rest) (others first dealt names none.1))

left_over : (outcomes : List Outcome) (names : List Bytes) → IsDistinct bytes_eq names
    → filter (λ name. not (is_dealt outcomes names name)) names ≡ drop (length outcomes) names
unfolding IsDistinct is_dealt
left_over outcomes [] distinct = sym (drop_all (length outcomes) [] (omega arith))
left_over [] (first ∷ names) distinct = ap (λ rest. first ∷ rest) (left_over [] names distinct.1)
left_over (outcome ∷ outcomes) (first ∷ names) distinct =
    filter_agree _ _ (λ name. ap not (dealt_more outcome outcomes first names name)) (first ∷ names)
    ∙ ap (λ b. cond (not (b || is_dealt outcomes names first)) (first ∷ filter (λ name. not (bytes_eq name first || is_dealt outcomes names name)) names) (filter (λ name. not (bytes_eq name first || is_dealt outcomes names name)) names)) (bytes_eq_refl first)
    ∙ others first (is_dealt outcomes names) names distinct.0
    ∙ left_over outcomes names distinct.1

pub files_due_ahead : (due : List Bytes) (outcomes : List Outcome) (files : List (Bytes × Source)) → IsDistinct bytes_eq (keys_of files)
    → AreAhead due outcomes (keys_of files)
    → unchecked (files_with is_checked outcomes (keys_of files) ++ files_with is_skipped outcomes (keys_of files)) (texts_of files) ≡ due
unfolding is_dealt
files_due_ahead due outcomes files distinct ahead =
    ap (filter (λ name. not (is_dealt outcomes (keys_of files) name))) (names_of_texts files)
    ∙ left_over outcomes (keys_of files) distinct ∙ sym ahead.rest

-- ---- one more outcome

pub files_with_more : (is_kind : Outcome → Bool) (outcomes : List Outcome) (outcome : Outcome) (names rest : List Bytes) (name : Bytes)
    → drop (length outcomes) names ≡ name ∷ rest
    → files_with is_kind (outcomes ++ outcome ∷ []) names ≡ files_with is_kind outcomes names ++ (if is_kind outcome then name ∷ [] else [])
files_with_more is_kind outcomes outcome [] rest name next = absurd (cons≢nil (sym next ∙ drop_all (length outcomes) [] (omega arith)))
files_with_more is_kind [] outcome (first ∷ names) rest name next =
    let same : first ≡ name = cc in ap (λ n. cond (is_kind outcome) (n ∷ []) []) same
files_with_more is_kind (before ∷ outcomes) outcome (first ∷ names) rest name next =
    by (is_kind before) (files_with_more is_kind outcomes outcome names rest name next) where
      by : (b : Bool) → files_with is_kind (outcomes ++ outcome ∷ []) names ≡ files_with is_kind outcomes names ++ (if is_kind outcome then name ∷ [] else [])
          → cond b (first ∷ files_with is_kind (outcomes ++ outcome ∷ []) names) (files_with is_kind (outcomes ++ outcome ∷ []) names)
          ≡ cond b (first ∷ files_with is_kind outcomes names) (files_with is_kind outcomes names) ++ (if is_kind outcome then name ∷ [] else [])
      by true behind = ap (λ files. first ∷ files) behind
      by false behind = behind
