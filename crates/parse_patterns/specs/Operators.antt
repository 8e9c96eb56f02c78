-- Operands and operators as they come: an operator waits for what stands after it, and those that bind closer than the next one go first.
use Rattle.std.specs.Prelude.{ℕ, Bool, true, false, not, ◌&&◌, ◌||◌, ◌==◌, nat_lt, if◌then◌else◌, List, [], ◌∷◌}
use Rattle.pc_terms.specs.declared.tree_kinds.TreeKind.TheVariants as kind
use Rattle.positioned_trees.specs.declared.details.Name.{Name}
use Rattle.parse_parts.specs.Built.{joined, alone, node}
use Rattle.parse_parts.specs.Steps.{from_to}
use Rattle.parse_patterns.specs.declared.operators.Folded.{Folded}
use Rattle.parse_patterns.specs.declared.states.Operand.{Operand}
use Rattle.parse_patterns.specs.declared.states.Operation.{Operation}

-- an operation with what stands after it
abbrev pub over : Operation → Operand → Operand
over op right = record {
  tall = node kind.CtorPat op.name.text op.name.span (from_to op.left.span.start right.span.end) (joined (alone op.left.tall) right.tall);
  span = from_to op.left.span.start right.span.end;
}

-- all that wait, the last one first
abbrev pub settled : List Operation → Operand → Operand
settled [] right = right
settled (op ∷ ops) right = settled ops (over op right)

-- an operation that goes before one of this level after it
abbrev pub goes_first : Operation → ℕ → Bool
goes_first op level = nat_lt level op.level || (op.level == level && not op.right)

abbrev pub one_goes : List Operation → ℕ → Bool
one_goes [] level = false
one_goes (op ∷ ops) level = goes_first op level

-- what waits still where an operator of this level follows, and what stands before that one
abbrev pub folded : List Operation → ℕ → Operand → Folded
folded [] level last = record { operations = []; last = last }
folded (op ∷ ops) level last = if goes_first op level then folded ops level (over op last) else record { operations = op ∷ ops; last = last }

abbrev pub waiting : Folded → Name → ℕ → Bool → List Operation
waiting folded name level right = record { left = folded.last; name = name; level = level; right = right } ∷ folded.operations

abbrev pub same_side : Bool → Bool → Bool
same_side true right = right
same_side false right = not right

-- The operators of one precedence between two that bind less have one associativity.
abbrev pub fits : List Operation → ℕ → Bool → Bool
fits [] level right = true
fits (op ∷ ops) level right = if nat_lt level op.level then fits ops level right else (not (op.level == level) || same_side op.right right)
