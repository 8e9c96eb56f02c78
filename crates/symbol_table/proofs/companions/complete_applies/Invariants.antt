use Rattle.symbol_table.specs.Companions.{PackagesStandWell, HasApplies}
use Rattle.symbol_table.specs.Found.{IsKept}
use Rattle.symbol_table.specs.Sources.{definitions_in}
use Rattle.symbol_table.proofs.companions.complete_applies.Given as goal

-- the definitions so far have their methods
abbrev pub invariant-loop-number : goal.invariant-loop-number
invariant-loop-number l = record {
  kept : IsKept l.definitions;
  found : PackagesStandWell (definitions_in l.initial.definitions.found.items)
      → HasApplies l.initial.definitions.found.items l.definitions.found.items l.initial.problems.items l.problems.items l.number;
}
