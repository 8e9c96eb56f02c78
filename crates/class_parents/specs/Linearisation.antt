-- Linearisations (SLS 5.1.2).
use Rattle.std.specs.Prelude.{ℕ, zero, suc, not, List, [], ◌∷◌, ◌++◌, filter}
use Rattle.item_questions.specs.Questions.{Gives, bind}
use Rattle.pc_terms.specs.declared.symbols.SymPath.{SymPath}
use Rattle.item_answers.specs.Asking.{Asking, each}
use Rattle.class_parents.specs.Parents.{is_in, classes_of, max_steps, endless, followed}

-- Two lists behind each other, of equal elements that of the right one: `a +: b` in SLS 5.1.2.
abbrev pub onto : List SymPath → List SymPath → List SymPath
onto left right = filter (λ class. not (is_in class right)) left ++ right

-- L(Cn) +: .. +: L(C1), of L(C1) to L(Cn)
abbrev pub behind_each_other : List (List SymPath) → List SymPath
behind_each_other [] = []
behind_each_other (first ∷ others) = onto (behind_each_other others) first

-- L(C) = C, L(Cn) +: .. +: L(C1), where C1 to Cn are the parents of C as they are followed. Their items are asked for depth
-- first, from C1 to Cn. The number is that of the classes that may still stand below each other.
unfoldable pub linearised : ℕ → SymPath → Asking (List SymPath)
linearised zero class = endless
linearised (suc n) class = bind (followed class)
    (λ types. bind (each (linearised n) (classes_of types)) (λ lists. Gives (class ∷ behind_each_other lists)))

-- The linearisation of a class, trait or object.
abbrev pub linearisation : SymPath → Asking (List SymPath)
linearisation class = linearised max_steps class
