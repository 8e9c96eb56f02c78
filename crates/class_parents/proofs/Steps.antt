-- The steps of the walk.
use Rattle.std.proofs.Common.{◌≡◌, ℕ, zero, suc, Bool, true, false, if◌then◌else◌, List, [], ◌∷◌, ◌++◌, reverse, None, Some, refl, sym, ap, ◌∙◌}
use Rattle.std.proofs.lemmas.List.{reverse-append}
use Rattle.std.proofs.lemmas.List.Sorted.{IsPermutation-reverse, list_any-IsPermutation}
use Rattle.item_answers.specs.Asking.{Stops}
use Rattle.item_answers.specs.declared.stopping.Stopped.{Stopped}
use Rattle.item_answers.specs.declared.stopping.Stopped.TheVariants as stopped
use Rattle.item_questions.specs.Questions.{Answer, Known, Needs}
use Rattle.item_questions.proofs.Answers.{none≢some, some-injective}
use Rattle.pc_terms.specs.declared.items.Item.{Item}
use Rattle.pc_terms.specs.declared.symbols.SymPath.{SymPath}
use Rattle.pc_terms.specs.declared.types.Ty.{Ty}
use Rattle.type_substitution.specs.Substitution.{path_eq}
use Rattle.class_parents.specs.Parents.{is_in, classes_of}
use Rattle.class_parents.specs.Walk.{WalkEnd, after, entering, walked, Halts}
use Rattle.class_parents.specs.declared.walking.Visit.{Visit}
use Rattle.class_parents.specs.declared.walking.Visit.TheVariants.{Enter, Leave}

module _ (parents : SymPath → Answer Item (List Ty)) (n : ℕ) (class : SymPath) (todo : List Visit) (found : List SymPath) where
  abbrev further : List Ty → WalkEnd
  further types = walked parents n (entering (classes_of types) ++ (Leave class ∷ todo)) found

  -- a class that was left before is passed over
  pub enter-seen : is_in class found ≡ true → walked parents (suc n) (Enter class ∷ todo) found ≡ walked parents n todo found
  unfolding walked
  enter-seen e = ap (λ b. if b then walked parents n todo found else after (parents class) further) e

  pub enter-new : is_in class found ≡ false → walked parents (suc n) (Enter class ∷ todo) found ≡ after (parents class) further
  unfolding walked
  enter-new e = ap (λ b. if b then walked parents n todo found else after (parents class) further) e

  pub enter-known : (types : List Ty) → is_in class found ≡ false → parents class ≡ Known types → walked parents (suc n) (Enter class ∷ todo) found ≡ further types
  enter-known types e h = enter-new e ∙ ap (λ r. after r further) h

  pub enter-halts : (why : Stopped) → is_in class found ≡ false → Stops why (parents class) → Halts why (walked parents (suc n) (Enter class ∷ todo) found)
  enter-halts stopped.NoMemory e h = tt
  enter-halts (stopped.Needs k) e h = enter-new e ∙ ap (λ r. after r further) h
  enter-halts (stopped.Cyclic k) e h = enter-new e ∙ ap (λ r. after r further) h

  pub leave-new : is_in class found ≡ false → walked parents (suc n) (Leave class ∷ todo) found ≡ walked parents n todo (class ∷ found)
  unfolding walked
  leave-new e = ap (λ b. if b then None else walked parents n todo (class ∷ found)) e

  -- a class that is left was not left before
  pub left-once : (end : Answer Item (List SymPath)) → walked parents (suc n) (Leave class ∷ todo) found ≡ Some end → is_in class found ≡ false
  unfolding walked
  left-once end h = by (is_in class found) refl
    where
      by : (b : Bool) → is_in class found ≡ b → is_in class found ≡ false
      by true e = absurd (none≢some end (sym (ap (λ b. if b then None else walked parents n todo (class ∷ found)) e) ∙ h))
      by false e = e

module _ (parents : SymPath → Answer Item (List Ty)) where
  pub no-steps : (todo : List Visit) (found : List SymPath) (end : Answer Item (List SymPath)) → walked parents zero todo found ≡ Some end → ⊥
  unfolding walked
  no-steps todo found end h = none≢some end h

  pub all-left : (n : ℕ) (found : List SymPath) → walked parents (suc n) [] found ≡ Some (Known found)
  unfolding walked
  all-left n found = refl

  -- with nothing left to visit the walk has ended
  pub ended : (left : ℕ) (found : List SymPath) (end : Answer Item (List SymPath)) → walked parents left [] found ≡ Some end → Known found ≡ end
  ended zero found end h = absurd (no-steps [] found end h)
  ended (suc left) found end h = some-injective (Known found) end (sym (all-left left found) ∙ h)

-- the walk has the last class that was left first, and the code has it last
pub is_in-reverse : (class : SymPath) (classes : List SymPath) → is_in class (reverse classes) ≡ is_in class classes
is_in-reverse class classes = sym (list_any-IsPermutation (path_eq class) classes (reverse classes) (IsPermutation-reverse classes))

pub reverse-left : (class : SymPath) (classes : List SymPath) → reverse (classes ++ class ∷ []) ≡ class ∷ reverse classes
reverse-left class classes = reverse-append classes (class ∷ [])
