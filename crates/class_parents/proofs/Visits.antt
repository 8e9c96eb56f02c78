-- The steps of the walk, as the code makes them: it has the last class that was left last.
use Rattle.std.proofs.Common.{◌≡◌, ℕ, suc, ◌+◌, ◌-◌, ◌<◌, true, false, List, [], ◌∷◌, ◌++◌, reverse, Some, Result, Ok, Err, OnOk, IfErr, IsErrAnd, MatchResult, sym, ap, subst, ◌∙◌}
use Rattle.item_answers.specs.Asking.{Stops}
use Rattle.item_answers.specs.declared.stopping.Stopped.{Stopped}
use Rattle.item_answers.specs.declared.stopping.Stopped.TheVariants as stopped
use Rattle.item_questions.specs.Questions.{Answer, Known, Infos}
use Rattle.pc_terms.specs.declared.items.Item.{Item}
use Rattle.pc_terms.specs.declared.items.ItemValue.{ItemValue}
use Rattle.pc_terms.specs.declared.symbols.SymPath.{SymPath}
use Rattle.pc_terms.specs.declared.types.Ty.{Ty}
use Rattle.item_answers.proofs.Binding.{handed-on}
use Rattle.class_parents.specs.Parents.{is_in, classes_of, max_steps}
use Rattle.class_parents.specs.Walk.{WalkEnd, entering, walked, Halts}
use Rattle.class_parents.specs.declared.walking.Visit.{Visit}
use Rattle.class_parents.specs.declared.walking.Visit.TheVariants.{Enter, Leave}
use Rattle.class_parents.proofs.Counted.{goes-on, ends-with}
use Rattle.class_parents.proofs.Lines.{line, parents_at, Lacks, Circles}
use Rattle.class_parents.proofs.Steps.{enter-seen, enter-known, enter-halts, leave-new, all-left, is_in-reverse}
use Rattle.class_parents.proofs.Walks.{walk-halts}

module _ (parents : SymPath → Answer Item (List Ty)) (class : SymPath) (todo : List Visit) (keys : List SymPath) where
  pub passes-seen : is_in class keys ≡ true → (n : ℕ) → walked parents (suc n) (Enter class ∷ todo) (reverse keys) ≡ walked parents n todo (reverse keys)
  passes-seen e n = enter-seen parents n class todo (reverse keys) (is_in-reverse class keys ∙ e)

  pub enters-new : (types slice : List Ty) (left now : List Visit) → is_in class keys ≡ false → parents class ≡ Known types → slice ≡ types
      → left ≡ Leave class ∷ todo → now ≡ entering (classes_of slice) ++ left
      → (n : ℕ) → walked parents (suc n) (Enter class ∷ todo) (reverse keys) ≡ walked parents n now (reverse keys)
  enters-new types slice left now e h same was is n =
      enter-known parents n class todo (reverse keys) types (is_in-reverse class keys ∙ e) h
      ∙ ap (λ t. walked parents n t (reverse keys)) (sym (is ∙ ap (λ xs. entering (classes_of xs) ++ left) same ∙ ap (λ l. entering (classes_of types) ++ l) was))

  pub enter-stops : {T : Type 0} (why : Stopped) (r : Result T Stopped) (P : T → Type 0) → is_in class keys ≡ false → Stops why (parents class)
      → IsErrAnd r (λ w. w ≡ why) → MatchResult r P (λ w. (n : ℕ) → Halts w (walked parents (suc n) (Enter class ∷ todo) (reverse keys)))
  enter-stops why r P e h is =
      handed-on r why P (λ w. (n : ℕ) → Halts w (walked parents (suc n) (Enter class ∷ todo) (reverse keys))) is
      (λ n. enter-halts parents n class todo (reverse keys) why (is_in-reverse class keys ∙ e) h)

  pub leaves-new : {T : Type 0} (step : Visit) (r : Result T Stopped) (now : List SymPath) → step ≡ Leave class → OnOk r (is_in class keys ≡ false)
      → OnOk r (reverse now ≡ class ∷ reverse keys) → IfErr r (λ why. why ≡ stopped.NoMemory)
      → MatchResult r (λ _. (n : ℕ) → walked parents (suc n) (step ∷ todo) (reverse keys) ≡ walked parents n todo (reverse now))
      (λ why. (n : ℕ) → Halts why (walked parents (suc n) (step ∷ todo) (reverse keys)))
  leaves-new step (Ok left) now is new added err = λ n.
      ap (λ s. walked parents (suc n) (s ∷ todo) (reverse keys)) is
      ∙ leave-new parents n class todo (reverse keys) (is_in-reverse class keys ∙ new) ∙ ap (walked parents n todo) (sym added)
  leaves-new step (Err why) now is new added err = λ n. subst (λ w. Halts w (walked parents (suc n) (step ∷ todo) (reverse keys))) (sym err) tt

  pub enters-as : {T : Type 0} (step : Visit) (r : Result T Stopped) (now : List Visit) (keys_now : List SymPath) → step ≡ Enter class
      → MatchResult r (λ _. (n : ℕ) → walked parents (suc n) (Enter class ∷ todo) (reverse keys) ≡ walked parents n now (reverse keys_now))
      (λ why. (n : ℕ) → Halts why (walked parents (suc n) (Enter class ∷ todo) (reverse keys)))
      → MatchResult r (λ _. (n : ℕ) → walked parents (suc n) (step ∷ todo) (reverse keys) ≡ walked parents n now (reverse keys_now))
      (λ why. (n : ℕ) → Halts why (walked parents (suc n) (step ∷ todo) (reverse keys)))
  enters-as step r now keys_now is h =
      subst (λ s. MatchResult r (λ _. (n : ℕ) → walked parents (suc n) (s ∷ todo) (reverse keys) ≡ walked parents n now (reverse keys_now))
      (λ why. (n : ℕ) → Halts why (walked parents (suc n) (s ∷ todo) (reverse keys)))) (sym is) h

-- ---- a loop of such steps

module _ (parents : SymPath → Answer Item (List Ty)) (step : ℕ) (whole : WalkEnd) (todo : List Visit) (keys : List SymPath) where
  abbrev comes_to : ℕ → List Visit × List SymPath → WalkEnd
  comes_to n left = walked parents n left.0 (reverse left.1)

  at-hand : (now : List Visit) → todo ≡ now → walked parents (max_steps - step) todo (reverse keys) ≡ whole → comes_to (max_steps - step) (now, keys) ≡ whole
  at-hand now is so = ap (λ xs. walked parents (max_steps - step) xs (reverse keys)) (sym is) ∙ so

  pub walk-on : (next : Visit) (rest todo_now : List Visit) (keys_now : List SymPath) → step < max_steps → todo ≡ next ∷ rest
      → ((n : ℕ) → walked parents (suc n) (next ∷ rest) (reverse keys) ≡ walked parents n todo_now (reverse keys_now))
      → walked parents (max_steps - step) todo (reverse keys) ≡ whole → walked parents (max_steps - (step + 1)) todo_now (reverse keys_now) ≡ whole
  walk-on next rest todo_now keys_now lt is again so =
      goes-on comes_to max_steps step whole (next ∷ rest, keys) (todo_now, keys_now) lt again (at-hand (next ∷ rest) is so)

  pub walk-breaks : {T : Type 0} (next : Visit) (rest : List Visit) (why : Stopped) (r : Result T Stopped) (P : T → Type 0) → step < max_steps → todo ≡ next ∷ rest
      → ((n : ℕ) → Halts why (walked parents (suc n) (next ∷ rest) (reverse keys)))
      → walked parents (max_steps - step) todo (reverse keys) ≡ whole → IsErrAnd r (λ w. w ≡ why) → MatchResult r P (λ w. Halts w whole)
  walk-breaks next rest why r P lt is again so e =
      handed-on r why P (λ w. Halts w whole) e
      (ends-with comes_to max_steps step whole (next ∷ rest, keys) (Halts why) lt again (at-hand (next ∷ rest) is so))

  pub walk-ends : step < max_steps → todo ≡ [] → walked parents (max_steps - step) todo (reverse keys) ≡ whole → whole ≡ Some (Known (reverse keys))
  walk-ends lt is so =
      ends-with comes_to max_steps step whole ([], keys) (λ r. r ≡ Some (Known (reverse keys))) lt (λ n. all-left parents n (reverse keys)) (at-hand [] is so)

-- where the walk stops, the linearisation stops
pub walk-stops : (known : Infos Item ItemValue) (n : ℕ) (class : SymPath) (why : Stopped) → Halts why (walked (parents_at known) n (Enter class ∷ []) [])
    → Stops why (line known n class)
walk-stops known n class stopped.NoMemory h = tt
walk-stops known n class (stopped.Needs k) h = walk-halts known n class (Lacks k) h
walk-stops known n class (stopped.Cyclic k) h = walk-halts known n class (Circles k) h

pub lined-stops : {T : Type 0} (known : Infos Item ItemValue) (n : ℕ) (class : SymPath) (why : Stopped) (r : Result T Stopped) (P : T → Type 0)
    → Halts why (walked (parents_at known) n (Enter class ∷ []) []) → IsErrAnd r (λ w. w ≡ why) → MatchResult r P (λ w. Stops w (line known n class))
lined-stops known n class why r P h is = handed-on r why P (λ w. Stops w (line known n class)) is (walk-stops known n class why h)
