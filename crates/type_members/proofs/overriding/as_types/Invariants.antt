use Rattle.std.proofs.Common.{◌≡◌, map, take}
use Rattle.pc_terms.specs.declared.types.Ty.{Param}
use Rattle.type_members.proofs.overriding.as_types.Given as goal

abbrev pub invariant-loop-path : goal.invariant-loop-path
invariant-loop-path l = l.types ≡ map Param (take l.path-index l.paths)
