use Rattle.std.proofs.Common.{◌≡◌, map, take}
use Rattle.type_substitution.specs.Substitution.{substituted, substituted_formal}
use Rattle.type_substitution.proofs.substituting.+substitution.Given as goal

-- in the types so far the arguments are put in
abbrev pub invariant-subst_types-loop-ty : goal.invariant-subst_types-loop-ty
invariant-subst_types-loop-ty l = l.news ≡ map (substituted l.params l.args) (take l.ty-index l.types)

-- in the parameters so far the arguments are put in
abbrev pub invariant-subst_formals-loop-formal : goal.invariant-subst_formals-loop-formal
invariant-subst_formals-loop-formal l = l.news ≡ map (substituted_formal l.params l.args) (take l.formal-index l.formals)
