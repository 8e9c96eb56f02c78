use Rattle.std.proofs.Common.{◌≡◌, ◌∙◌, sym, ap, map, take, take_all, get_or, length, rules, arith}
use Rattle.positioned_trees.specs.Trees.{height}
use Rattle.positioned_trees.specs.declared.trees.Tree.TheViews.{out-Tree}
use Rattle.positioned_trees.proofs.Heights.{height-out, height-get_or}
use Rattle.source_grammar.specs.Comprehensions.{hidden, hidden_step}
use Rattle.tree_lower.proofs.HiddenTrees.{hidden_out}
use Rattle.tree_lower.proofs.copies.+hidden.Goals as goal

pub hidden-requires : goal.hidden-requires
hidden-requires t c =
    let kids = (out-Tree c.args.tree.now).kids in
    let kid = c.kid-item.result in
    let at = c.loop-kid.kid-index in
    let is : kid ≡ get_or kids at kid = c.kid-item.is ∙ ap (λ items. get_or items at kid) c.as_slice-kid-items.ensures in
    let lower = height-get_or kids at kid (omega (arith, c.loop-kid-test.true, ap length c.as_slice-kid-items.ensures)) in
    (omega (arith, c.decreases, height-out c.args.tree.now, lower, ap height is), tt)

pub returns : goal.returns
returns t c =
    let tree = c.args.tree.now in
    let items = c.as_slice-kid-items.result.now in
    let all : take c.loop-kid.kid-index items ≡ items = take_all c.loop-kid.kid-index items (omega (arith, c.loop-kid-test.false)) in
    let kids : c.loop-kid.kids ≡ map hidden (out-Tree tree).kids = c.loop-kid.invariant ∙ ap (map hidden) (all ∙ c.as_slice-kid-items.ensures) in
    let label : c.in_ok-clone.field-0 ≡ (out-Tree tree).label = search rules in
    ap (λ ks. hidden_step (record (out-Tree tree) { label = c.in_ok-clone.field-0; kids = ks })) kids
    ∙ ap (λ l. hidden_step (record (out-Tree tree) { label = l; kids = map hidden (out-Tree tree).kids })) label
    ∙ sym (hidden_out tree)
