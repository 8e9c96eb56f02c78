use Rattle.std.proofs.Common.{◌≡◌, ◌+◌, ◌++◌, ◌∷◌, [], false, append_assoc, drop, length, length-drop, ap, sym, ◌∙◌, arith}
use Rattle.parse_exprs.specs.Items.{is_semicolon, item_in, items_in, symbol_at}
use Rattle.parse_exprs.specs.Lists.{of_items, cut_at}
use Rattle.parse_exprs.specs.Statements.{statements, built_until}
use Rattle.parse_exprs.proofs.Dividing.{cuts_from, stands, cut-on, all-behind, behind-cut}
use Rattle.parse_exprs.proofs.lists.divided.Goals as goal

pub items-preserved : goal.items-preserved
items-preserved c =
    let text = c.args.text.now in
    let items = c.args.items.now in
    let at = c.items.at in
    let cut = c.in_ok-cut.cut in
    let item = c.index-items-at.result in
    let semicolon : is_semicolon (symbol_at (item_in text item)) ≡ false = ap is_semicolon (sym c.symbol_in.ensures) ∙ sym c.is_semicolon.ensures ∙ c.if-is_semicolon.false in
    let here = stands text items at item c.items-test.true c.index-items-at.is in
    let is = c.in_ok-cut.ensures.is ∙ ap (λ l. cut_at of_items statements built_until c.items.skip (items_in text l)) (all-behind items at) in (
      omega (arith, c.in_ok-cut.ensures.within, ap length (all-behind items at), length-drop at items, c.items-test.true),
      omega arith,
      ap (λ l. l ++ cuts_from 0 0 (items_in text (drop (at + cut.count) items))) c.in_ok-push.ensures.ok
          ∙ append_assoc c.items.cuts (cut ∷ []) (cuts_from 0 0 (items_in text (drop (at + cut.count) items)))
          ∙ ap (λ l. c.items.cuts ++ cut ∷ cuts_from 0 0 l) (sym (behind-cut text items at cut.count))
          ∙ ap (λ l. c.items.cuts ++ l)
          (sym (cut-on c.items.skip (items_in text (drop at items)) (items_in text (drop (at + 1) items)) (item_in text item) cut here semicolon is c.in_ok-cut.ensures.some))
          ∙ c.items.invariant.2,
    )
