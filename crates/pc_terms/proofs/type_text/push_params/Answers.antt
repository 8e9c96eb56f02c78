use Rattle.std.proofs.Common.{rules, arith, ◌≡◌, ◌+◌, ◌∷◌, drop}
use Rattle.std.proofs.lemmas.Grind.{common_steps}
use Rattle.pc_terms.proofs.type_text.push_params.Goals as goal

pub loop-param-preserved : goal.loop-param-preserved
loop-param-preserved c =
    let next : drop c.loop-param.param-index c.args.params.now ≡ c.param-item.result ∷ drop (c.loop-param.param-index + 1) c.args.params.now = grind (arith, common_steps) in
    let left = rw next at c.loop-param.invariant.1 in
    (search rules, grind (arith, common_steps, left))
