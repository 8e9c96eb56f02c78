use Rattle.std.proofs.Common.{◌≡◌}
use Rattle.tree_parser.specs.Read.{unit_of}
use Rattle.layer_bench.specs.Counts.{kid_count}
use Rattle.layer_bench.proofs.layers.root_kids.Given as goal

abbrev pub invariant-loop : goal.invariant-loop
invariant-loop l = l.count ≡ kid_count (unit_of l.text)
