use Rattle.symbol_table.proofs.Ranked.{HasGroups}
use Rattle.symbol_table.proofs.table.groups_of.Given as goal

-- the definitions so far have their groups
abbrev pub invariant-loop-each : goal.invariant-loop-each
invariant-loop-each l = HasGroups l.found l.groups l.each-index
