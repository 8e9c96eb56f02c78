use Rattle.std.proofs.Common.{◌≡◌}
use Rattle.parse_parts.specs.Built.{no_kids}
use Rattle.tree_lower.specs.Lowering.{with_params}
use Rattle.tree_lower.proofs.placeholders.placeholder_params.Given as goal

abbrev pub invariant-loop-place : goal.invariant-loop-place
invariant-loop-place l = l.kids ≡ with_params no_kids l.yielded
