use Rattle.std.proofs.Common.{◌≡◌, ◌<◌, length, take, get_or, ap, ◌∙◌, arith}
use Rattle.std.proofs.lemmas.Grind.{common_steps}
use Rattle.positioned_trees.specs.Trees.{height}
use Rattle.positioned_trees.specs.declared.trees.Tree.TheViews.{out-Tree}
use Rattle.positioned_trees.proofs.Heights.{height-out, height-get_or}
use Rattle.symbol_table.specs.Items.{tree_qualifiers}
use Rattle.symbol_table.proofs.Below.{imports_entered}
use Rattle.symbol_table.proofs.walking.Entering.+enter_imports.Goals as goal

pub enter_imports-requires : goal.enter_imports-requires
enter_imports-requires t c =
    let kids = (out-Tree c.args.tree.now).kids in
    let kid = c.kid-item.result in
    let at = c.loop-kid.kid-index in
    let is : kid ≡ get_or kids at kid = c.kid-item.is ∙ ap (λ items. get_or items at kid) c.as_slice-kid-items.ensures in
    let within : at < length kids = omega (arith, c.loop-kid-test.true, ap length c.as_slice-kid-items.ensures) in
    (omega (arith, c.decreases, height-out c.args.tree.now, height-get_or kids at kid within, ap height is), tt)

pub returns : goal.returns
returns t c =
    let all : take c.loop-kid.kid-index c.as_slice-kid-items.result.now ≡ c.as_slice-kid-items.result.now = grind (arith, common_steps) in
    imports_entered (tree_qualifiers c.args.name.now) c.args.self.now c.loop-kid.self c.push_qualifiers.new.items
    (take c.loop-kid.kid-index c.as_slice-kid-items.result.now) c.args.tree.now c.in_ok-push_qualifiers.ensures (all ∙ c.as_slice-kid-items.ensures) c.loop-kid.invariant
