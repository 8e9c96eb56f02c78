-- Operands and operators as they come: an operator waits for what stands after it, and those that bind closer than
-- the next one go first.
use Rattle.std.specs.Prelude.{ℕ, Bool, if◌then◌else◌, List, [], ◌∷◌}
use Rattle.positioned_trees.specs.declared.details.Name.{Name}
use Rattle.scan_tokens.specs.Words.{Bytes}
use Rattle.source_grammar.specs.Precedence.{precedence, is_right}
use Rattle.parse_patterns.specs.declared.operators.Folded.{Folded}
use Rattle.parse_patterns.specs.declared.states.Operand.{Operand}
use Rattle.parse_patterns.specs.declared.states.Operation.{Operation}
use Rattle.parse_patterns.specs.Operators.{goes_first, waiting}
use Rattle.parse_patterns.specs.Operators as patterns
use Rattle.tree_lower.specs.Lowering.{operation}

abbrev pub over : Operation → Operand → Operand
over op right = operation op.name op.left right

-- all that wait, the last one first
abbrev pub settled : List Operation → Operand → Operand
settled [] last = last
settled (op ∷ ops) last = settled ops (over op last)

-- what waits still where an operator of this level follows, and what stands before that one
abbrev pub folded : List Operation → ℕ → Operand → Folded
folded [] level last = record { operations = []; last = last }
folded (op ∷ ops) level last =
    if goes_first op level then folded ops level (over op last) else record { operations = op ∷ ops; last = last }

-- the operations with one more, before which those that go first are folded
abbrev pub pushed : List Operation → Operand → Name → List Operation
pushed ops last name = waiting (folded ops (precedence name.text) last) name (precedence name.text) (is_right name.text)

abbrev pub fits : List Operation → Bytes → Bool
fits ops text = patterns.fits ops (precedence text) (is_right text)
