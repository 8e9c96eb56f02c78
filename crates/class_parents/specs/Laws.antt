-- What is so of linearisations, in words of their own.
use Rattle.std.specs.Prelude.{◌≡◌, ⊤, false, List, [], ◌∷◌, ◌++◌, Some}
use Rattle.item_questions.specs.Questions.{Known, Infos, run}
use Rattle.pc_terms.specs.declared.items.Item.{Item}
use Rattle.pc_terms.specs.declared.items.ItemValue.{ItemValue}
use Rattle.pc_terms.specs.declared.symbols.SymPath.{SymPath}
use Rattle.pc_terms.specs.declared.types.Ty.{Ty}
use Rattle.class_parents.specs.Parents.{class_of, followed, is_in}
use Rattle.class_parents.specs.Linearisation.{linearisation}

-- the linearisation of a class is this, under the values that are known
abbrev pub IsLine : Infos Item ItemValue → SymPath → List SymPath → Type 0
IsLine known class classes = run known (linearisation class) ≡ Known classes

-- A linearisation begins with the class itself.
abbrev pub BeginsWithClass : Type 0
BeginsWithClass = (known : Infos Item ItemValue) (class : SymPath) (classes : List SymPath)
    → IsLine known class classes → (others : List SymPath) × (classes ≡ class ∷ others)

-- no class stands before one that is equal to it
abbrev pub EachOnce : List SymPath → Type 0
EachOnce [] = ⊤
EachOnce (class ∷ classes) = (is_in class classes ≡ false) × EachOnce classes

-- A linearisation has each class once.
abbrev pub HasEachOnce : Type 0
HasEachOnce = (known : Infos Item ItemValue) (class : SymPath) (classes : List SymPath) → IsLine known class classes → EachOnce classes

-- It ends with the linearisation of its first parent (SLS 5.1.2).
abbrev pub EndsWithFirstParent : Type 0
EndsWithFirstParent = (known : Infos Item ItemValue) (class parent : SymPath) (first : Ty) (others : List Ty) (classes : List SymPath)
    → run known (followed class) ≡ Known (first ∷ others) → class_of first ≡ Some parent → IsLine known class classes
    → (line : List SymPath) × (before : List SymPath) × (IsLine known parent line) × (classes ≡ before ++ line)
