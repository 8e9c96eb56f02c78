use Rattle.std.proofs.Common.{◌≡◌, ◌-◌, arith, sym, subst, ap, ◌∙◌, take, get_or, length, refl, ◌<◌}
use Rattle.std.proofs.lemmas.Bool.{false≢true}
use Rattle.std.specs.List.{All}
use Rattle.std.proofs.lemmas.Grind.{common_steps}
use Rattle.std.proofs.lemmas.List.Elements.{All-more}
use Rattle.positioned_trees.specs.Located as spec
use Rattle.positioned_trees.specs.Trees.{height}
use Rattle.positioned_trees.specs.declared.trees.Tree.TheViews.{out-Tree}
use Rattle.positioned_trees.proofs.Heights.{height-out, height-get_or}
use Rattle.positioned_trees.proofs.Standing.{StandsIn, stands-from_kids, stands_some, stands-kid}
use Rattle.positioned_trees.proofs.checking.+stands.Goals as goal

pub returns-then-room-eq0 : goal.returns-then-room-eq0
returns-then-room-eq0 t c = (λ no. absurd (false≢true no), λ stands. absurd (omega (arith, stands_some c.args.tree.now c.args.room stands, c.if-room-eq0.true)))

pub stands-requires : goal.stands-requires
stands-requires t c =
    let kids = (out-Tree c.args.tree.now).kids in
    let kid = c.kid-item.result in
    let at = c.loop-kid.kid-index in
    let is : kid ≡ get_or kids at kid = c.kid-item.is ∙ ap (λ items. get_or items at kid) c.as_slice-kid-items.ensures in
    let lower = height-get_or kids at kid (omega (arith, c.loop-kid-test.true, ap length c.as_slice-kid-items.ensures)) in
    (omega (arith, c.decreases, height-out c.args.tree.now, lower, ap height is), tt)

pub returns-then-not-is_within : goal.returns-then-not-is_within
returns-then-not-is_within t c =
    let kids = (out-Tree c.args.tree.now).kids in
    let kid = c.kid-item.result in
    let at = c.loop-kid.kid-index in
    let is : kid ≡ get_or kids at kid = c.kid-item.is ∙ ap (λ items. get_or items at kid) c.as_slice-kid-items.ensures in
    let within : at < length kids = omega (arith, c.loop-kid-test.true, ap length c.as_slice-kid-items.ensures) in (
      λ no. absurd (false≢true no),
      λ stands. c.if-not-is_within.ensures.1
          (subst (λ one. spec.IsWithin (out-Tree c.args.tree.now).span (out-Tree one).span) (sym is) (stands-kid c.args.tree.now c.args.room at kid within stands).0),
    )

pub returns-then-not-stands : goal.returns-then-not-stands
returns-then-not-stands t c =
    let kids = (out-Tree c.args.tree.now).kids in
    let kid = c.kid-item.result in
    let at = c.loop-kid.kid-index in
    let is : kid ≡ get_or kids at kid = c.kid-item.is ∙ ap (λ items. get_or items at kid) c.as_slice-kid-items.ensures in
    let within : at < length kids = omega (arith, c.loop-kid-test.true, ap length c.as_slice-kid-items.ensures) in (
      λ no. absurd (false≢true no),
      λ stands. c.if-not-stands.ensures.1
          (subst (spec.Stands (c.args.room - 1)) (sym is) (stands-kid c.args.tree.now c.args.room at kid within stands).1),
    )

pub loop-kid-preserved : goal.loop-kid-preserved
loop-kid-preserved t c =
    All-more (StandsIn c.args.tree.now (c.args.room - 1)) c.as_slice-kid-items.result.now c.loop-kid.kid-index c.kid-item.result c.loop-kid-test.true c.loop-kid.invariant
    (subst (StandsIn c.args.tree.now (c.args.room - 1)) c.kid-item.is (c.if-not-is_within.ensures.0 refl, c.if-not-stands.ensures.0 refl))

pub returns : goal.returns
returns t c =
    let all : take c.loop-kid.kid-index c.as_slice-kid-items.result.now ≡ c.as_slice-kid-items.result.now = grind (arith, common_steps) in (
      λ yes. stands-from_kids c.args.tree.now c.args.room (omega (arith, c.if-room-eq0.false))
          (subst (All (StandsIn c.args.tree.now (c.args.room - 1))) (all ∙ c.as_slice-kid-items.ensures) c.loop-kid.invariant),
      λ stands. refl,
    )
