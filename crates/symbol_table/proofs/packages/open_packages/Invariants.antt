use Rattle.std.proofs.Common.{[], take}
use Rattle.std.specs.List.{flat_map}
use Rattle.symbol_table.specs.Definitions.{clause_openings}
use Rattle.symbol_table.specs.Found.{IsKept}
use Rattle.symbol_table.specs.Opened.{Opens}
use Rattle.symbol_table.proofs.packages.open_packages.Given as goal

-- the clauses so far are opened
abbrev pub invariant-loop-kid : goal.invariant-loop-kid
invariant-loop-kid l = record {
  kept : IsKept l.definitions;
  opened : Opens l.file [] (flat_map clause_openings (take l.kid-index l.kid-items)) l.initial.definitions.found.items l.definitions.found.items l.innermost;
}
