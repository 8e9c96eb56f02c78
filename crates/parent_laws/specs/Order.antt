-- The order of a linearisation, against those of the class's parents.
use Rattle.std.specs.Prelude.{◌≡◌, ⊤, Bool, true, false, not, ◌&&◌, ◌||◌, List, [], ◌∷◌, ◌++◌, filter}
use Rattle.item_answers.specs.Asking.{each}
use Rattle.item_questions.specs.Questions.{Known, Infos, run}
use Rattle.pc_terms.specs.declared.items.Item.{Item}
use Rattle.pc_terms.specs.declared.items.ItemValue.{ItemValue}
use Rattle.pc_terms.specs.declared.symbols.SymPath.{SymPath}
use Rattle.pc_terms.specs.declared.types.Ty.{Ty}
use Rattle.type_substitution.specs.Substitution.{path_eq}
use Rattle.class_parents.specs.Laws.{IsLine}
use Rattle.class_parents.specs.Linearisation.{behind_each_other, linearisation}
use Rattle.class_parents.specs.Parents.{classes_of, followed, is_in}

-- ---- order

-- the first of these classes stands in the list, and the second behind it
abbrev pub stands_before : SymPath → SymPath → List SymPath → Bool
stands_before x y [] = false
stands_before x y (class ∷ classes) = (path_eq x class && is_in y classes) || stands_before x y classes

-- The classes of the first list stand in the second, each behind the one before it: it is a subsequence.
abbrev pub InOrder : List SymPath → List SymPath → Type 0
InOrder [] many = ⊤
InOrder (class ∷ few) many = (before : List SymPath) × (after : List SymPath) × (many ≡ before ++ class ∷ after) × InOrder few after

-- Where a class of the first list is in the second, so are those that stand behind it there, and they stand behind it here.
abbrev pub Agrees : List SymPath → List SymPath → Type 0
Agrees line base = (x y : SymPath) → stands_before x y line ≡ true → is_in x base ≡ true → stands_before x y base ≡ true

-- ---- laws

-- A linearisation refines the inheritance relation: a class stands before all others to which it leads (SLS 5.1.2).
abbrev pub RefinesInheritance : Type 0
RefinesInheritance = (known : Infos Item ItemValue) (class x y : SymPath) (classes line : List SymPath) → IsLine known class classes
    → is_in x classes ≡ true → IsLine known x line → is_in y line ≡ true → path_eq x y ≡ false → stands_before x y classes ≡ true

-- the linearisations of several classes
abbrev pub AreLines : Infos Item ItemValue → List SymPath → List (List SymPath) → Type 0
AreLines known classes lists = run known (each linearisation classes) ≡ Known lists

-- The linearisation of a parent is a subsequence of that of the class where it agrees with what the parents before it lead to,
-- and only there. Those of its classes to which these do not lead always are one.
pub record IsInOrder (known : Infos Item ItemValue) (parent : SymPath) (before classes : List SymPath) : Type 0 where
  pub line : List SymPath
  pub is_line : IsLine known parent line
  pub lists : List (List SymPath)
  pub are_lines : AreLines known before lists
  pub where_agrees : Agrees line (behind_each_other lists) → InOrder line classes
  pub only_there : InOrder line classes → Agrees line (behind_each_other lists)
  pub new_ones : InOrder (filter (λ x. not (is_in x (behind_each_other lists))) line) classes

abbrev pub ParentsInOrder : Type 0
ParentsInOrder = (known : Infos Item ItemValue) (class parent : SymPath) (types : List Ty) (before after classes : List SymPath)
    → run known (followed class) ≡ Known types → classes_of types ≡ before ++ parent ∷ after → IsLine known class classes
    → IsInOrder known parent before classes
