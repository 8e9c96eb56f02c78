use Rattle.std.proofs.Common.{◌≡◌, take}
use Rattle.std.specs.List.{flat_map}
use Rattle.symbol_table.specs.Found.{found_items}
use Rattle.symbol_table.proofs.items.items_of.Given as goal

-- the items of the definitions so far
abbrev pub invariant-loop-each : goal.invariant-loop-each
invariant-loop-each l = l.items ≡ flat_map found_items (take l.each-index l.found)
