use Rattle.std.proofs.Common.{◌≡◌, length}
use Rattle.std.specs.List.{All}
use Rattle.reading_machines.specs.Machines.{run}
use Rattle.template_steps.specs.Pieces.{IsPieceOf, parts_in}
use Rattle.template_steps.specs.Statements.{stepped}
use Rattle.template_steps.specs.declared.statements.Statement.TheVariants as statement
use Rattle.tree_parser.proofs.lists.read.Given as goal

-- the pieces that are left lead to the same
abbrev pub invariant-pieces : goal.invariant-pieces
invariant-pieces l =
    All (IsPieceOf l.text) l.rest
    × (run (stepped l.kind) (parts_in l.text l.rest) l.statement ≡ run (stepped l.kind) (parts_in l.text l.initial.rest) statement.Begin)

abbrev pub decreases-pieces : goal.decreases-pieces
decreases-pieces l = length l.rest
