use Rattle.std.proofs.Common.{◌≡◌}
use Rattle.parse_parts.specs.Built.{no_kids}
use Rattle.expr_steps.specs.Steps.{element_params}
use Rattle.expr_steps.proofs.steps.group_params.Given as goal

abbrev pub invariant-loop-element : goal.invariant-loop-element
invariant-loop-element l = l.kids ≡ element_params no_kids l.yielded
