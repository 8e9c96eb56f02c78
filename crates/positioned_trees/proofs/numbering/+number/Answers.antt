use Rattle.std.proofs.Common.{◌≡◌, ◌+◌, Some, sym, subst, ap, ◌∙◌, refl, arith, length, get_or}
use Rattle.std.specs.List.{All}
use Rattle.positioned_trees.specs.Located.{KeepsKidsApart, Stands}
use Rattle.positioned_trees.specs.Trees.{AreInPreOrder, all_trees, height, numbered}
use Rattle.positioned_trees.proofs.Apart.{stays_apart}
use Rattle.positioned_trees.proofs.PreOrder.{follows, keeps_places}
use Rattle.positioned_trees.specs.declared.trees.Tree.TheViews.{out-Tree, out-roll-Tree}
use Rattle.positioned_trees.proofs.Numbers.{numbered-out, followed, renumbered, same_at, step, kid_fits, ended, put_back, renumbered_is, too_high, not_too_high, high-from_none, low-from_some}
use Rattle.positioned_trees.proofs.Heights.{height-out, height-get_or}
use Rattle.positioned_trees.proofs.numbering.+number.Goals as goal

pub returns-in_err-next-clause-next : goal.returns-in_err-next-clause-next
returns-in_err-next-clause-next t c =
    c.from_residual.ensures ∙ too_high (numbered c.args.tree.now c.args.start).next (grind (arith, c.in_err-next.ensures, followed c.args.tree.now c.args.start))

pub loop-kid-init : goal.loop-kid-init
loop-kid-init t c = record { trees = refl; next_is = refl; left = refl; fits = omega (arith, c.in_ok-next.ensures) }

pub number-requires : goal.number-requires
number-requires t c =
    let kids = (out-Tree c.args.tree.now).kids in
    let at = c.loop-kid.kid-index in
    let items : c.into_vec-kids.result.items ≡ kids = c.into_vec-kids.ensures ∙ c.replace.ensures.value ∙ ap (λ x. x.kids) (out-roll-Tree _) in
    let given : c.deref_mut-kid-items.result.now ≡ kids = c.deref_mut-kid-items.ensures.value ∙ items in
    let is = same_at c.loop-kid.kid-items c.deref_mut-kid-items.result.now at c.kid-item.result c.loop-kid.invariant.left ∙ ap (λ xs. get_or xs at c.kid-item.result) given in
    let lower = height-get_or kids at c.kid-item.result (omega (arith, c.loop-kid-test.true, ap length given)) in
    (omega (arith, c.decreases, height-out c.args.tree.now, lower, ap height is), omega (arith, c.requires, height-out c.args.tree.now, lower, ap height is))

pub returns-in_err-next-2-clause-next : goal.returns-in_err-next-2-clause-next
returns-in_err-next-2-clause-next t c =
    let kids = (out-Tree c.args.tree.now).kids in
    let items : c.into_vec-kids.result.items ≡ kids = c.into_vec-kids.ensures ∙ c.replace.ensures.value ∙ ap (λ x. x.kids) (out-roll-Tree _) in
    let given : c.deref_mut-kid-items.result.now ≡ kids = c.deref_mut-kid-items.ensures.value ∙ items in
    let lower = kid_fits c.args.tree.now c.args.start c.in_ok-next.next c.deref_mut-kid-items.result.now c.loop-kid.kid-items c.loop-kid.kid-index c.loop-kid.next c.kid-item.result given (omega (arith, c.in_ok-next.ensures)) (omega (arith, c.loop-kid-test.true, c.loop-kid.auto.kid-items)) c.loop-kid.invariant in
    let high = high-from_none _ c.in_err-next-2.ensures.next in
    c.from_residual-in_err-next-2.ensures ∙ too_high (numbered c.args.tree.now c.args.start).next (omega (arith, lower, high))

pub loop-kid-preserved : goal.loop-kid-preserved
loop-kid-preserved t c =
    step c.deref_mut-kid-items.result.now c.loop-kid.kid-items c.in_ok-next.next c.loop-kid.kid-index c.loop-kid.next c.in_ok-next-2.next c.kid-item.result c.number.new.tree
    (omega (arith, c.loop-kid-test.true, c.loop-kid.auto.kid-items)) c.loop-kid.invariant c.in_ok-next-2.ensures.tree c.in_ok-next-2.ensures.next

pub returns-clause-next : goal.returns-clause-next
returns-clause-next t c =
    let kids = (out-Tree c.args.tree.now).kids in
    let items : c.into_vec-kids.result.items ≡ kids = c.into_vec-kids.ensures ∙ c.replace.ensures.value ∙ ap (λ x. x.kids) (out-roll-Tree _) in
    let given : c.deref_mut-kid-items.result.now ≡ kids = c.deref_mut-kid-items.ensures.value ∙ items in
    let end = ended c.args.tree.now c.args.start c.in_ok-next.next c.deref_mut-kid-items.result.now c.loop-kid.kid-items c.loop-kid.kid-index c.loop-kid.next given (omega (arith, c.in_ok-next.ensures)) (omega (arith, c.loop-kid-test.false, c.loop-kid.auto.kid-items)) c.loop-kid.invariant in
    ap Some end.1 ∙ not_too_high (numbered c.args.tree.now c.args.start).next (omega (arith, end.1, c.loop-kid.invariant.fits))

pub returns-clause-tree : goal.returns-clause-tree
returns-clause-tree t c =
    let kids = (out-Tree c.args.tree.now).kids in
    let items : c.into_vec-kids.result.items ≡ kids = c.into_vec-kids.ensures ∙ c.replace.ensures.value ∙ ap (λ x. x.kids) (out-roll-Tree _) in
    let given : c.deref_mut-kid-items.result.now ≡ kids = c.deref_mut-kid-items.ensures.value ∙ items in
    let end = ended c.args.tree.now c.args.start c.in_ok-next.next c.deref_mut-kid-items.result.now c.loop-kid.kid-items c.loop-kid.kid-index c.loop-kid.next given (omega (arith, c.in_ok-next.ensures)) (omega (arith, c.loop-kid-test.false, c.loop-kid.auto.kid-items)) c.loop-kid.invariant in
    let back = c.from_vec.ensures ∙ put_back c.loop-kid.kid-items c.into_vec-kids.result.items c.into_vec-kids.result.len (c.loop-kid.auto.kid-items ∙ ap length c.deref_mut-kid-items.ensures.value) c.into_vec-kids.result.ok.0 in
    rw (out-roll-Tree) (renumbered_is c.args.tree.now c.args.start c.from_vec.result ∙ ap (renumbered c.args.tree.now c.args.start) (back ∙ end.0) ∙ sym (ap (λ n. n.tree) (numbered-out c.args.tree.now c.args.start)))

pub returns-clause-ids : goal.returns-clause-ids
returns-clause-ids t c = subst (AreInPreOrder c.args.start) (sym (returns-clause-tree t c)) (follows c.args.tree.now c.args.start).numbers

pub returns-clause-count : goal.returns-clause-count
returns-clause-count t c =
    (low-from_some (numbered c.args.tree.now c.args.start).next c.loop-kid.next (returns-clause-next t c)).0
    ∙ (follows c.args.tree.now c.args.start).next_is ∙ ap (λ one. c.args.start + length (all_trees one)) (sym (returns-clause-tree t c))

pub returns-clause-places : goal.returns-clause-places
returns-clause-places t c room stands = subst (Stands room) (sym (returns-clause-tree t c)) (keeps_places c.args.tree.now c.args.start room stands)

pub returns-clause-apart : goal.returns-clause-apart
returns-clause-apart t c each =
    subst (λ tree. All KeepsKidsApart (all_trees tree)) (sym (returns-clause-tree t c)) (stays_apart c.args.tree.now c.args.start each)
