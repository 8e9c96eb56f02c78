use Rattle.std.proofs.Common.{◌<◌, length, ap, ◌∙◌, arith}
use Rattle.pc_terms.specs.declared.items.Item.TheVariants as item
use Rattle.item_questions.specs.Rounds.{is_item}
use Rattle.lazy_completion.specs.Fitting.{item_eq}
use Rattle.completion_checks.specs.Graph.{nodes}
use Rattle.completion_checks.proofs.Nodes.{node-listed}
use Rattle.completion_checks.proofs.asks.ask.Goals as goal

pub complete-requires-clause-listed : goal.complete-requires-clause-listed
complete-requires-clause-listed c =
    let needs = c.args.graph.now.needs.items in
    let below : c.args.node < length needs = omega (arith, c.if-node-len.false, c.len.ensures) in
    ap (λ f. is_item item_eq (nodes (length needs)) (item.Qualifier f c.args.node)) c.in_ok-new.ensures ∙ node-listed (length needs) c.args.node below
