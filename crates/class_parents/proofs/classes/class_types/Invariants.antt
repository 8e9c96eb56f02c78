use Rattle.std.proofs.Common.{◌≡◌, take}
use Rattle.class_parents.specs.Parents.{class_types}
use Rattle.class_parents.proofs.classes.class_types.Given as goal

-- the class types so far are copied
abbrev pub invariant-loop-ty : goal.invariant-loop-ty
invariant-loop-ty l = l.found ≡ class_types (take l.ty-index l.types)
