use Rattle.std.proofs.Common.{◌≡◌, map, drop}
use Rattle.type_members.specs.Types.{are_same_lists}
use Rattle.type_members.proofs.parameters.are_same.Given as goal

-- what is left of the lists agrees where all of them do
abbrev pub invariant-loop-list : goal.invariant-loop-list
invariant-loop-list l =
    are_same_lists (map (λ list. list.now) (drop l.list-index l.a)) (map (λ list. list.now) l.others) ≡ are_same_lists (map (λ list. list.now) l.a) (map (λ list. list.now) l.b)
