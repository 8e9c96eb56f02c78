use Rattle.std.proofs.Common.{◌≡◌, map, drop}
use Rattle.type_members.specs.Types.{all_pass, is_same_type, is_same_formal}
use Rattle.type_members.proofs.same_types.+same_types.Given as goal

-- what is left of the types agrees where all of them do
abbrev pub invariant-are_same_types-loop-one : goal.invariant-are_same_types-loop-one
invariant-are_same_types-loop-one l = all_pass (map is_same_type (drop l.one-index l.a)) l.others ≡ all_pass (map is_same_type l.a) l.b

-- what is left of the parameters agrees where all of them do
abbrev pub invariant-are_same_formals-loop-one : goal.invariant-are_same_formals-loop-one
invariant-are_same_formals-loop-one l = all_pass (map is_same_formal (drop l.one-index l.a)) l.others ≡ all_pass (map is_same_formal l.a) l.b
