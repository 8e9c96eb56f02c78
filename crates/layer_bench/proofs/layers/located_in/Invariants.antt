use Rattle.std.proofs.Common.{◌≡◌}
use Rattle.positioned_trees.specs.Located.{located}
use Rattle.layer_bench.proofs.layers.located_in.Given as goal

abbrev pub invariant-loop : goal.invariant-loop
invariant-loop l = l.id ≡ located l.unit l.offset
