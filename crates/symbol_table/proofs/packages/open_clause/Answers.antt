use Rattle.symbol_table.specs.Found.{owner_steps}
use Rattle.positioned_trees.specs.declared.trees.Tree.TheViews.{out-Tree}
use Rattle.symbol_table.proofs.Opening.{Opens-name}
use Rattle.symbol_table.proofs.packages.open_clause.Goals as goal

pub loop-name-preserved : goal.loop-name-preserved
loop-name-preserved c = record {
  kept = c.in_ok-innermost.ensures.kept;
  opened = Opens-name c.args.file (owner_steps c.args.definitions.now.found.items c.args.outer) (out-Tree c.args.clause.now).id c.as_slice-name-items.result.now
      c.loop-name.name-index c.name-item.result c.args.definitions.now.found.items c.loop-name.definitions.found.items c.open.new.definitions.found.items
      c.loop-name.innermost c.in_ok-innermost.innermost c.loop-name-test.true c.name-item.is c.loop-name.invariant.opened c.in_ok-innermost.ensures.opened;
}
