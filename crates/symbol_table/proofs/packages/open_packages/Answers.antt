use Rattle.std.proofs.Common.{[]}
use Rattle.symbol_table.proofs.Opening.{Opens-clause}
use Rattle.symbol_table.proofs.packages.open_packages.Goals as goal

pub loop-kid-preserved : goal.loop-kid-preserved
loop-kid-preserved c = record {
  kept = c.in_ok-innermost.ensures.kept;
  opened = Opens-clause c.args.file [] c.as_slice-kid-items.result.now
      c.loop-kid.kid-index c.kid-item.result c.args.definitions.now.found.items c.loop-kid.definitions.found.items c.open_clause.new.definitions.found.items
      c.loop-kid.innermost c.in_ok-innermost.innermost c.loop-kid-test.true c.kid-item.is c.loop-kid.invariant.opened c.in_ok-innermost.ensures.opened;
}
