-- The walk that finds a linearisation: from left to right down the parents, each class once, and each class behind those that it
-- leads to. It is what the code does; what it comes to is the linearisation.
use Rattle.std.specs.Prelude.{◌≡◌, ⊤, ℕ, zero, suc, if◌then◌else◌, List, [], ◌∷◌, ◌++◌, map, Option, None, Some}
use Rattle.item_answers.specs.declared.stopping.Stopped.{Stopped}
use Rattle.item_answers.specs.declared.stopping.Stopped.TheVariants as stopped
use Rattle.item_questions.specs.Questions.{Answer, Known, Needs, AtCyclic}
use Rattle.pc_terms.specs.declared.items.Item.{Item}
use Rattle.pc_terms.specs.declared.symbols.SymPath.{SymPath}
use Rattle.pc_terms.specs.declared.types.Ty.{Ty}
use Rattle.class_parents.specs.Parents.{is_in, classes_of}
use Rattle.class_parents.specs.declared.walking.Visit.{Visit}
use Rattle.class_parents.specs.declared.walking.Visit.TheVariants.{Enter, Leave}

-- what a walk comes to; none where the steps do not do
abbrev pub WalkEnd : Type 0
WalkEnd = Option (Answer Item (List SymPath))

abbrev pub after : Answer Item (List Ty) → (List Ty → WalkEnd) → WalkEnd
after (Known types) next = next types
after (Needs k) next = Some (Needs k)
after (AtCyclic k) next = Some (AtCyclic k)

-- to enter the classes of these
abbrev pub entering : List SymPath → List Visit
entering classes = map Enter classes

module _ (parents : SymPath → Answer Item (List Ty)) where
  -- In so many steps, with the classes that are left already, the last one first. A class that is left twice comes to no end.
  unfoldable pub walked : ℕ → List Visit → List SymPath → WalkEnd
  walked zero todo found = None
  walked (suc n) [] found = Some (Known found)
  walked (suc n) (Leave class ∷ todo) found = if is_in class found then None else walked n todo (class ∷ found)
  walked (suc n) (Enter class ∷ todo) found =
      if is_in class found then walked n todo found
      else after (parents class) (λ types. walked n (entering (classes_of types) ++ Leave class ∷ todo) found)

-- what is said of a walk where it stops
abbrev pub Halts : Stopped → WalkEnd → Type 0
Halts stopped.NoMemory outcome = ⊤
Halts (stopped.Needs k) outcome = outcome ≡ Some (Needs k)
Halts (stopped.Cyclic k) outcome = outcome ≡ Some (AtCyclic k)
