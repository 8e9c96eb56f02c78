-- What is read at a token: what the machine over levels comes to, and the tree of what it has read.
use Rattle.std.specs.Prelude.{ℕ, ◌+◌, nat_le, if◌then◌else◌, List, [], take, Option, Some, None}
use Rattle.positioned_trees.specs.Trees.{height, numbered}
use Rattle.positioned_trees.specs.declared.trees.Tree.{Tree}
use Rattle.reading_machines.specs.Machines.{run, reading_of}
use Rattle.reading_machines.specs.Parts.{anything}
use Rattle.source_grammar.specs.Lexemes.{Lexeme}
use Rattle.parse_parts.specs.Built.{max_height}
use Rattle.parse_parts.specs.declared.built.Tall.{Tall}
use Rattle.parse_parts.specs.declared.parts.Part.{Part}
use Rattle.parse_parts.specs.declared.parts.Part.TheVariants.{Read, NotHere, TooHigh}
use Rattle.expr_steps.specs.Reading.{Item}
use Rattle.parse_exprs.specs.Levels.{Levels, reader, tree_of}

abbrev pub items_by : Option Levels → List Item
items_by None = []
items_by (Some levels) = levels.current.items

-- the items that these tokens are, where each of them is admitted
abbrev pub items_of : List Lexeme → List Item
items_of ts = items_by (run (reader).step ts (reader).start)

abbrev pub numbered_part : Tree → ℕ → Part
numbered_part tree behind = Read (numbered tree 0).tree behind

-- the part whose tree this is, where it is not too high
abbrev pub part_of : Option Tall → ℕ → Part
part_of None behind = TooHigh behind
part_of (Some tall) behind = if nat_le (height tall.tree) max_height then numbered_part tall.tree behind else TooHigh behind

abbrev pub part_by : List Lexeme → ℕ → ℕ → Option ℕ → Part
part_by ts at reached None = NotHere (at + reached)
part_by ts at reached (Some count) = part_of (tree_of (items_of (take count ts))) (at + count)

-- The longest expression at token `at`, which is the first of these, or that there is none, and where the machine stops, or that it is too high.
abbrev pub expr_part : List Lexeme → ℕ → Part
expr_part ts at = part_by ts at (reading_of reader anything ts).reached (reading_of reader anything ts).best
