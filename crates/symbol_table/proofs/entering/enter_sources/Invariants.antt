use Rattle.symbol_table.specs.Sources.{AreEntered}
use Rattle.symbol_table.specs.Tables.{sources_of}
use Rattle.symbol_table.proofs.entering.enter_sources.Given as goal

-- the sources so far are entered
abbrev pub invariant-loop-loaded : goal.invariant-loop-loaded
invariant-loop-loaded l = AreEntered (sources_of l.units) l.loaded-index l.all
