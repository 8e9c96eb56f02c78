use Rattle.std.proofs.Common.{◌≡◌, ◌<◌, ◌++◌, ◌∷◌, [], length, get_or, refl, sym, ap, ◌∙◌, arith}
use Rattle.std.proofs.lemmas.Result.{on_ok_weaker}
use Rattle.positioned_trees.specs.Trees.{height}
use Rattle.positioned_trees.specs.declared.trees.Tree.TheViews.{out-Tree}
use Rattle.positioned_trees.proofs.Heights.{height-out, height-get_or}
use Rattle.symbol_table.specs.Entering.{standing_of, told_of}
use Rattle.symbol_table.specs.Symbols.{is_local}
use Rattle.symbol_table.proofs.Kids.{EntersFirst-more, EntersKids-all}
use Rattle.symbol_table.proofs.KidTurns.{owner_grown, added, kid-misplaced, kid-quiet, kid-second, kid-defined}
use Rattle.symbol_table.proofs.walking.Entering.+entering_trees.Goals as goal

pub enter_kid-returns-then-is_misplaced-clause-entered : goal.enter_kid-returns-then-is_misplaced-clause-entered
enter_kid-returns-then-is_misplaced-clause-entered t c =
    on_ok_weaker c.push.result (λ e. kid-misplaced c.args.source.file c.args.source.name.now c.args.owner c.args.kind c.args.around.now c.args.kid.now c.args.self.now
    (record c.args.self.now { told = c.push.new.self }) (sym c.if-is_misplaced.ensures) refl refl
    (e ∙ ap (λ problem. c.args.self.now.told ++ problem ∷ []) c.in_ok-misplaced.ensures)) c.push.ensures.ok

pub enter_kid-returns-then-is_local-clause-entered : goal.enter_kid-returns-then-is_local-clause-entered
enter_kid-returns-then-is_local-clause-entered t c =
    on_ok_weaker c.enter_imports.result (λ e. kid-quiet c.args.source.file c.args.source.name.now c.args.owner c.args.kind c.args.around.now c.args.kid.now c.args.self.now
    (sym c.if-is_misplaced.ensures) c.enter_imports.new.self (ap is_local (sym c.symbol_in-symbol.ensures) ∙ sym c.if-is_local.ensures) e) c.enter_imports.ensures

pub enter_kid-enter_kids-requires : goal.enter_kid-enter_kids-requires
enter_kid-enter_kids-requires t c =
    let one = added c.args.self.now.definitions.found.items c.define.new.self.definitions.found.items c.args.owner c.symbol_in-symbol.result (out-Tree c.args.kid.now).label
    (standing_of c.args.source.file c.args.around.now c.args.kid.now) c.in-Some.number (sym c.in-Some.is ∙ c.in_ok-number.ensures.number) c.in_ok-number.ensures.found in
    (omega (arith, c.decreases), (c.in_ok-number.ensures.kept, one.inside))

pub enter_kid-returns-in-Some-clause-entered : goal.enter_kid-returns-in-Some-clause-entered
enter_kid-returns-in-Some-clause-entered t c =
    on_ok_weaker c.enter_kids.result (λ e. kid-defined c.args.source.file c.args.source.name.now c.args.owner c.args.kind c.args.around.now c.args.kid.now c.args.self.now
    (sym c.if-is_misplaced.ensures) c.symbol_in-symbol.result c.symbol_in-symbol.ensures (sym c.if-is_local.ensures) c.define.new.self
    c.in_ok-number.ensures.found c.in_ok-number.ensures.qualifiers c.enter_kids.new.self c.in-Some.number
    (sym c.in-Some.is ∙ c.in_ok-number.ensures.number) (c.in_ok-number.ensures.told ∙ ap (λ n. c.args.self.now.told ++ told_of n c.args.kid.now) c.in-Some.is) c.requires.owned c.in_ok-number.ensures.kept.next e) c.enter_kids.ensures.entered

pub enter_kid-returns-in-None-clause-entered : goal.enter_kid-returns-in-None-clause-entered
enter_kid-returns-in-None-clause-entered t c =
    kid-second c.args.source.file c.args.source.name.now c.args.owner c.args.kind c.args.around.now c.args.kid.now c.args.self.now
    (sym c.if-is_misplaced.ensures) c.symbol_in-symbol.result c.symbol_in-symbol.ensures (sym c.if-is_local.ensures) c.define.new.self
    c.in_ok-number.ensures.found c.in_ok-number.ensures.qualifiers (sym c.in-None.is ∙ c.in_ok-number.ensures.number) (c.in_ok-number.ensures.told ∙ ap (λ n. c.args.self.now.told ++ told_of n c.args.kid.now) c.in-None.is)

pub enter_kids-enter_kid-requires : goal.enter_kids-enter_kid-requires
enter_kids-enter_kid-requires t c =
    let kids = (out-Tree c.args.tree.now).kids in
    let kid = c.kid-item.result in
    let at = c.loop-kid.kid-index in
    let is : kid ≡ get_or kids at kid = c.kid-item.is ∙ ap (λ items. get_or items at kid) c.as_slice-kid-items.ensures in
    let within : at < length kids = omega (arith, c.loop-kid-test.true, ap length c.as_slice-kid-items.ensures) in (
      omega (arith, c.decreases, height-out c.args.tree.now, height-get_or kids at kid within, ap height is),
      (
        c.loop-kid.invariant.kept,
        owner_grown c.args.self.now.definitions.found.items c.loop-kid.self.definitions.found.items c.args.owner c.requires.owned c.loop-kid.invariant.grows,
      ),
    )

pub enter_kids-loop-kid-preserved : goal.enter_kids-loop-kid-preserved
enter_kids-loop-kid-preserved t c =
    let kids = (out-Tree c.args.tree.now).kids in
    let kid = c.kid-item.result in
    let at = c.loop-kid.kid-index in
    let is : kid ≡ get_or kids at kid = c.kid-item.is ∙ ap (λ items. get_or items at kid) c.as_slice-kid-items.ensures in
    let within : at < length kids = omega (arith, c.loop-kid-test.true, ap length c.as_slice-kid-items.ensures) in record {
      kept = c.in_ok-enter_kid.ensures.kept;
      grows = omega (arith, c.loop-kid.invariant.grows, c.in_ok-enter_kid.ensures.grows);
      first = EntersFirst-more c.args.source.file c.args.source.name.now c.args.owner c.args.kind c.args.tree.now at kid c.args.self.now c.loop-kid.self c.enter_kid.new.self
          c.requires.owned within is c.loop-kid.invariant.first c.in_ok-enter_kid.ensures.entered;
    }

pub enter_kids-returns-clause-entered : goal.enter_kids-returns-clause-entered
enter_kids-returns-clause-entered t c =
    EntersKids-all c.args.source.file c.args.source.name.now c.args.owner c.args.kind c.args.tree.now c.args.self.now c.loop-kid.self c.loop-kid.kid-index
    (omega (arith, c.loop-kid-test.false, ap length c.as_slice-kid-items.ensures)) c.loop-kid.invariant.first
