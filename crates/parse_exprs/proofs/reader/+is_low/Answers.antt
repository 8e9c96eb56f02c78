use Rattle.std.proofs.Common.{◌≡◌, ◌-◌, ◌≤◌, arith, ap, ◌∙◌, take, take_all, get_or, length, refl}
use Rattle.std.proofs.lemmas.Bool.{false≢true}
use Rattle.positioned_trees.specs.Trees.{height, highest}
use Rattle.positioned_trees.specs.declared.trees.Tree.TheViews.{out-Tree}
use Rattle.positioned_trees.proofs.Heights.{height-out, height-get_or}
use Rattle.parse_exprs.proofs.Low.{highest-more}
use Rattle.parse_exprs.proofs.reader.+is_low.Goals as goal

pub returns-then-room-eq0 : goal.returns-then-room-eq0
returns-then-room-eq0 t c = (λ no. absurd (false≢true no), λ low. absurd (omega (arith, height-out c.args.tree.now, low, c.if-room-eq0.true)))

pub is_low-requires : goal.is_low-requires
is_low-requires t c =
    let kids = (out-Tree c.args.tree.now).kids in
    let kid = c.kid-item.result in
    let at = c.loop-kid.kid-index in
    let is : kid ≡ get_or kids at kid = c.kid-item.is ∙ ap (λ items. get_or items at kid) c.as_slice-kid-items.ensures in
    let lower = height-get_or kids at kid (omega (arith, c.loop-kid-test.true, ap length c.as_slice-kid-items.ensures)) in
    (omega (arith, c.decreases, height-out c.args.tree.now, lower, ap height is), tt)

pub returns-then-not-is_low : goal.returns-then-not-is_low
returns-then-not-is_low t c =
    let kids = (out-Tree c.args.tree.now).kids in
    let kid = c.kid-item.result in
    let at = c.loop-kid.kid-index in
    let is : kid ≡ get_or kids at kid = c.kid-item.is ∙ ap (λ items. get_or items at kid) c.as_slice-kid-items.ensures in
    let lower = height-get_or kids at kid (omega (arith, c.loop-kid-test.true, ap length c.as_slice-kid-items.ensures)) in
    (λ no. absurd (false≢true no), λ low. c.if-not-is_low.ensures.1 (omega (arith, low, lower, ap height is, height-out c.args.tree.now)))

pub loop-kid-preserved : goal.loop-kid-preserved
loop-kid-preserved t c =
    let more = highest-more c.as_slice-kid-items.result.now c.loop-kid.kid-index c.kid-item.result c.loop-kid-test.true in
    let low : height c.kid-item.result ≤ c.args.room - 1 = c.if-not-is_low.ensures.0 refl in
    omega (arith, more, low, ap height c.kid-item.is, c.loop-kid.invariant)

pub returns : goal.returns
returns t c =
    let items = c.as_slice-kid-items.result.now in
    let all : take c.loop-kid.kid-index items ≡ items = take_all c.loop-kid.kid-index items (omega (arith, c.loop-kid-test.false)) in (
      λ yes. omega (arith, height-out c.args.tree.now, ap highest (all ∙ c.as_slice-kid-items.ensures), c.loop-kid.invariant, c.if-room-eq0.false),
      λ low. refl,
    )
