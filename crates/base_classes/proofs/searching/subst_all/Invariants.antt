use Rattle.std.proofs.Common.{◌≡◌, map, take}
use Rattle.type_substitution.specs.Substitution.{substituted}
use Rattle.base_classes.proofs.searching.subst_all.Given as goal

-- in the types so far the arguments are put in
abbrev pub invariant-loop-ty : goal.invariant-loop-ty
invariant-loop-ty l = l.news ≡ map (substituted l.params l.args) (take l.ty-index l.ty-items)
