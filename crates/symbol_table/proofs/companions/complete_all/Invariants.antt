use Rattle.symbol_table.specs.Companions.{HasCompanions}
use Rattle.symbol_table.specs.Found.{IsKept}
use Rattle.symbol_table.proofs.companions.complete_all.Given as goal

-- the definitions so far have their companions
abbrev pub invariant-loop-number : goal.invariant-loop-number
invariant-loop-number l = record {
  kept : IsKept l.definitions;
  found : HasCompanions l.initial.definitions.found.items l.definitions.found.items l.number;
}
