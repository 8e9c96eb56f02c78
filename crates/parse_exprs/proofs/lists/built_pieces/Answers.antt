use Rattle.std.proofs.Common.{◌+◌, take, drop, ap, sym, ◌∙◌, subst, arith}
use Rattle.std.specs.List.{All}
use Rattle.std.proofs.lemmas.List.{drop_all}
use Rattle.std.proofs.lemmas.List.Elements.{All-drop}
use Rattle.parse_exprs.specs.Items.{IsItemOf, items_in}
use Rattle.parse_exprs.specs.Lists.{of_items, pieces_by}
use Rattle.parse_exprs.proofs.Building.{build, built-on}
use Rattle.parse_exprs.proofs.lists.built_pieces.Goals as goal

pub loop-cut-preserved : goal.loop-cut-preserved
loop-cut-preserved c =
    let text = c.args.text.now in
    let span = c.args.span in
    let cuts = c.args.cuts.now in
    let at = c.loop-cut.cut-index in
    let rest = c.loop-cut.rest in
    let left = c.in_ok-items.ensures.left ∙ ap (drop _) c.dropped.ensures in
    let are = c.in_ok-items.ensures.is ∙ ap (take _) c.dropped.ensures in (
      subst (All (IsItemOf text)) (sym left) (All-drop (IsItemOf text) _ (drop _ rest) (All-drop (IsItemOf text) _ rest c.loop-cut.invariant.0)),
      (λ i. build span (c.in_ok-now.ensures i).kids (c.in_ok-now.ensures i).free (pieces_by of_items (drop (at + 1) cuts) (items_in text (left i))))
          ∙ sym (built-on text span c.loop-cut.now.kids c.loop-cut.now.free cuts at _ rest c.in_ok-items.items c.in_ok-built.built c.loop-cut-test.true are c.in_ok-built.ensures)
          ∙ c.loop-cut.invariant.1,
    )

pub returns : goal.returns
returns c =
    sym (ap (λ l. build c.args.span c.loop-cut.now.kids c.loop-cut.now.free (pieces_by of_items l (items_in c.args.text.now c.loop-cut.rest)))
    (drop_all c.loop-cut.cut-index c.args.cuts.now (omega (arith, c.loop-cut-test.false))))
    ∙ c.loop-cut.invariant.1
