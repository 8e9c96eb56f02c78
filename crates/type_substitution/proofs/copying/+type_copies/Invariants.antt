use Rattle.std.proofs.Common.{◌≡◌, take}
use Rattle.type_substitution.proofs.copying.+type_copies.Given as goal

-- the types so far are copied
abbrev pub invariant-copy_types-loop-ty : goal.invariant-copy_types-loop-ty
invariant-copy_types-loop-ty l = l.copies ≡ take l.ty-index l.types

-- the parameters so far are copied
abbrev pub invariant-copy_formals-loop-formal : goal.invariant-copy_formals-loop-formal
invariant-copy_formals-loop-formal l = l.copies ≡ take l.formal-index l.formals
