-- Parts of a list.
use Rattle.std.specs.Prelude.{◌&&◌, nat_le, if◌then◌else◌, List, [], length, slice_range}
use Rattle.symbol_table.specs.declared.groups.Group.{Group}

abbrev pub no_group : Group
no_group = record { start = 0; end = 0 }

-- the elements at the positions of a group, where the list has them
abbrev pub part : {X : Type 0} → List X → Group → List X
part xs group =
    if nat_le group.start group.end && nat_le group.end (length xs) then slice_range xs group.start group.end else []
