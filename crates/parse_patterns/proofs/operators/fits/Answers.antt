use Rattle.std.proofs.Common.{◌∙◌}
use Rattle.parse_patterns.proofs.Waiting.{fits-next}
use Rattle.parse_patterns.proofs.operators.fits.Goals as goal

pub loop-depth-preserved : goal.loop-depth-preserved
loop-depth-preserved c =
    fits-next c.args.operations.now c.loop-depth.depth c.in-Some.operation.now c.args.level c.args.right c.in-Some.ensures c.if-operation-level.false
    ∙ c.loop-depth.invariant
