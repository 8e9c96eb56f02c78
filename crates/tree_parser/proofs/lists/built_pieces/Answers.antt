use Rattle.std.proofs.Common.{◌≡◌, ◌+◌, [], take, drop, ap, sym, ◌∙◌, subst, arith}
use Rattle.std.specs.List.{All}
use Rattle.std.proofs.lemmas.List.{drop_all}
use Rattle.std.proofs.lemmas.List.Elements.{All-drop}
use Rattle.parse_exprs.specs.Lists.{pieces_by}
use Rattle.template_steps.specs.Pieces.{IsPieceOf, of_parts, parts_in}
use Rattle.tree_parser.proofs.Building.{build, built_on}
use Rattle.tree_parser.proofs.lists.built_pieces.Goals as goal

pub loop-cut-preserved : goal.loop-cut-preserved
loop-cut-preserved c =
    let text = c.args.text.now in
    let kind = c.args.kind in
    let cuts = c.args.cuts.now in
    let at = c.loop-cut.cut-index in
    let rest = c.loop-cut.rest in
    let left = c.in_ok-pieces.ensures.left ∙ ap (drop _) c.dropped.ensures in
    let are = c.in_ok-pieces.ensures.is ∙ ap (take _) c.dropped.ensures in (
      subst (All (IsPieceOf text)) (sym left) (All-drop (IsPieceOf text) _ (drop _ rest) (All-drop (IsPieceOf text) _ rest c.loop-cut.invariant.0)),
      λ span.
          (λ i. build kind span (c.in_ok-kids.ensures i) [] (pieces_by of_parts (drop (at + 1) cuts) (parts_in text (left i))))
          ∙ sym (built_on text kind span c.loop-cut.kids cuts at _ rest c.in_ok-pieces.pieces c.in_ok-tall.tall c.loop-cut-test.true are c.in_ok-tall.ensures)
          ∙ c.loop-cut.invariant.1 span,
    )

pub returns : goal.returns
returns c =
    λ span. sym (c.loop-cut.invariant.1 span)
    ∙ ap (λ l. build c.args.kind span c.loop-cut.kids [] (pieces_by of_parts l (parts_in c.args.text.now c.loop-cut.rest)))
    (drop_all c.loop-cut.cut-index c.args.cuts.now (omega (arith, c.loop-cut-test.false)))
