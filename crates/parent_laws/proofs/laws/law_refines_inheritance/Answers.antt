use Rattle.class_parents.specs.Parents.{max_steps}
use Rattle.parent_laws.proofs.Refines.{refines}
use Rattle.parent_laws.proofs.laws.law_refines_inheritance.Goals as goal

pub returns : goal.returns
returns c = λ known class x y classes line h has is_line leads other. refines known x y max_steps line is_line leads other max_steps class classes h has
