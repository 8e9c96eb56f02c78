use Rattle.std.proofs.Common.{◌≡◌, ◌+◌, ◌∷◌, [], fold, sym, subst, ap, ◌∙◌, refl, arith, length, drop, get_or}
use Rattle.std.specs.List.{All, flat_map}
use Rattle.std.proofs.lemmas.Grind.{common_steps}
use Rattle.positioned_trees.specs.Located as spec
use Rattle.positioned_trees.specs.Trees.{height, all_trees, placed_from}
use Rattle.positioned_trees.specs.declared.trees.Tree.TheViews.{out-Tree}
use Rattle.positioned_trees.proofs.Choices.{no_candidates, best_of_tree, best_of_kids}
use Rattle.positioned_trees.proofs.Heights.{height-out, height-get_or}
use Rattle.positioned_trees.proofs.Spans.{All-kid, All-kids}
use Rattle.positioned_trees.proofs.locating.+best_in.Goals as goal

pub returns-then-not-holds_offset : goal.returns-then-not-holds_offset
returns-then-not-holds_offset t c = rw (no_candidates c.args.offset c.args.depth c.args.tree.now (sym c.if-not-holds_offset.ensures) c.requires.encloses) refl

pub best_in-best-requires : goal.best_in-best-requires
best_in-best-requires t c =
    let kids = (out-Tree c.args.tree.now).kids in
    let kid = c.kid-item.result in
    let at = c.loop-kid.kid-index in
    let is : kid ≡ get_or kids at kid = c.kid-item.is ∙ ap (λ items. get_or items at kid) c.as_slice-kid-items.ensures in
    let lower = height-get_or kids at kid (omega (arith, c.loop-kid-test.true, ap length c.as_slice-kid-items.ensures)) in
    let encloses = All-kid spec.EnclosesKids kids at kid (omega (arith, c.loop-kid-test.true, ap length c.as_slice-kid-items.ensures)) (All-kids spec.EnclosesKids c.args.tree.now c.requires.encloses) in
    (omega (arith, c.decreases, height-out c.args.tree.now, lower, ap height is), (omega (arith, c.requires.low, height-out c.args.tree.now, lower, ap height is), subst (λ one. All spec.EnclosesKids (all_trees one)) (sym is) encloses))

pub returns : goal.returns
returns t c =
    let none : drop c.loop-kid.kid-index c.as_slice-kid-items.result.now ≡ [] = grind (arith, common_steps) in
    let left = rw none at c.loop-kid.invariant in
    left ∙ ap (λ kids. fold spec.better_of c.better_with-best.result (spec.candidates c.args.offset (flat_map (placed_from (c.args.depth + 1)) kids))) c.as_slice-kid-items.ensures
    ∙ ap (λ found. fold spec.better_of found (spec.candidates c.args.offset (flat_map (placed_from (c.args.depth + 1)) (out-Tree c.args.tree.now).kids))) c.better_with-best.ensures
    ∙ sym (best_of_tree c.args.before c.args.offset c.args.depth c.args.tree.now (sym c.if-not-holds_offset.ensures))

pub loop-kid-preserved : goal.loop-kid-preserved
loop-kid-preserved t c =
    let next : drop c.loop-kid.kid-index c.as_slice-kid-items.result.now ≡ c.kid-item.result ∷ drop (c.loop-kid.kid-index + 1) c.as_slice-kid-items.result.now = grind (arith, common_steps) in
    let left = rw next at c.loop-kid.invariant in
    ap (λ found. fold spec.better_of found (spec.candidates c.args.offset (flat_map (placed_from (c.args.depth + 1)) (drop (c.loop-kid.kid-index + 1) c.as_slice-kid-items.result.now)))) c.best_in-best.ensures
    ∙ sym (best_of_kids c.loop-kid.best c.args.offset (c.args.depth + 1) c.kid-item.result (drop (c.loop-kid.kid-index + 1) c.as_slice-kid-items.result.now)) ∙ left
