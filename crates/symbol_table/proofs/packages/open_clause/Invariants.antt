use Rattle.std.proofs.Common.{map, take}
use Rattle.symbol_table.specs.Found.{IsKept, owner_steps}
use Rattle.symbol_table.specs.Opened.{Opens, opening}
use Rattle.positioned_trees.specs.declared.trees.Tree.TheViews.{out-Tree}
use Rattle.symbol_table.proofs.packages.open_clause.Given as goal

-- the names so far are opened
abbrev pub invariant-loop-name : goal.invariant-loop-name
invariant-loop-name l = record {
  kept : IsKept l.definitions;
  opened : Opens l.file (owner_steps l.initial.definitions.found.items l.initial.innermost) (map (opening (out-Tree l.clause).id) (take l.name-index l.name-items))
      l.initial.definitions.found.items l.definitions.found.items l.innermost;
}
