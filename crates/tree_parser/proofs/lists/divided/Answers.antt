use Rattle.std.proofs.Common.{◌≡◌, ◌+◌, ◌++◌, ◌∷◌, [], false, append_assoc, drop, length, length-drop, ap, sym, ◌∙◌, arith}
use Rattle.parse_exprs.specs.Items.{is_semicolon}
use Rattle.template_steps.specs.Pieces.{part_in, parts_in, symbol_at}
use Rattle.tree_parser.proofs.Dividing.{cuts_from, cut_in, stands, cut_on, all_behind, behind_cut}
use Rattle.tree_parser.proofs.lists.divided.Goals as goal

pub pieces-preserved : goal.pieces-preserved
pieces-preserved c =
    let text = c.args.text.now in
    let kind = c.args.kind in
    let pieces = c.args.pieces.now in
    let at = c.pieces.at in
    let cut = c.in_ok-cut.cut in
    let piece = c.index-pieces-at.result in
    let semicolon : is_semicolon (symbol_at (part_in text piece)) ≡ false = ap is_semicolon (sym c.symbol_in.ensures) ∙ sym c.is_semicolon.ensures ∙ c.if-is_semicolon.false in
    let here = stands text pieces at piece c.pieces-test.true c.index-pieces-at.is in
    let is = c.in_ok-cut.ensures.is ∙ ap (λ l. cut_in kind c.pieces.skip (parts_in text l)) (all_behind pieces at) in (
      omega (arith, c.in_ok-cut.ensures.within, ap length (all_behind pieces at), length-drop at pieces, c.pieces-test.true),
      omega arith,
      ap (λ l. l ++ cuts_from kind 0 0 (parts_in text (drop (at + cut.count) pieces))) c.in_ok-push.ensures.ok
          ∙ append_assoc c.pieces.cuts (cut ∷ []) (cuts_from kind 0 0 (parts_in text (drop (at + cut.count) pieces)))
          ∙ ap (λ l. c.pieces.cuts ++ cut ∷ cuts_from kind 0 0 l) (sym (behind_cut text pieces at cut.count))
          ∙ ap (λ l. c.pieces.cuts ++ l)
          (sym (cut_on kind c.pieces.skip (parts_in text (drop at pieces)) (parts_in text (drop (at + 1) pieces)) (part_in text piece) cut here semicolon is c.in_ok-cut.ensures.some))
          ∙ c.pieces.invariant.2,
    )
