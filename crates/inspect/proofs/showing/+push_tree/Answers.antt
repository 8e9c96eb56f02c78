use Rattle.std.proofs.Common.{◌≡◌, ◌<◌, ◌∙◌, ap, get_or, length, arith}
use Rattle.positioned_trees.specs.Trees.{height}
use Rattle.positioned_trees.specs.declared.trees.Tree.TheViews.{out-Tree}
use Rattle.positioned_trees.proofs.Heights.{height-out, height-get_or}
use Rattle.inspect.proofs.showing.+push_tree.Goals as goal

pub push_tree-requires : goal.push_tree-requires
push_tree-requires t c =
    let kids = (out-Tree c.args.tree.now).kids in
    let kid = c.kid-item.result in
    let at = c.loop-kid.kid-index in
    let is : kid ≡ get_or kids at kid =
    c.kid-item.is ∙ ap (λ items. get_or items at kid) c.as_slice-kid-items.ensures in
    let within : at < length kids = omega (arith, c.loop-kid-test.true, ap length c.as_slice-kid-items.ensures) in
    let lower = height-get_or kids at kid within in
    (omega (arith, c.decreases, height-out c.args.tree.now, lower, ap height is), tt)
