use Rattle.std.proofs.Common.{◌≡◌, IfOk, subst}
use Rattle.expr_frames.specs.Generators as spec
use Rattle.expr_frames.proofs.generators.finish.Goals as goal

pub returns : goal.returns
returns c =
    subst (λ parted. IfOk c.with_generator.result (λ now. now ≡ spec.with_generator c.args.generators parted))
    c.in_ok-with_last.ensures c.with_generator.ensures
