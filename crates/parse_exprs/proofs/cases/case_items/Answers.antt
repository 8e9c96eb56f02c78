use Rattle.std.proofs.Common.{◌≡◌, ◌∷◌, ◌++◌, [], false, append_assoc, length, ap, sym, subst, ◌∙◌, arith}
use Rattle.std.specs.List.{All}
use Rattle.std.proofs.lemmas.List.{map-append}
use Rattle.std.proofs.lemmas.List.Elements.{All-head, All-push}
use Rattle.parse_exprs.specs.Cases.{behind_case, case_items, ends_case}
use Rattle.parse_exprs.specs.Items.{IsItemOf, depth_behind, item_in, items_in, symbol_at}
use Rattle.parse_exprs.proofs.Taking.{all-rest, behind_case-on, case_items-on}
use Rattle.parse_exprs.proofs.cases.case_items.Goals as goal

pub items-preserved : goal.items-preserved
items-preserved c =
    let text = c.args.text.now in
    let rest = c.items.rest in
    let new = c.pop.new.self in
    let item = c.in-Some.item in
    let depth = c.items.depth in
    let now = c.depth_behind-depth.result in
    let is : now ≡ depth_behind depth (symbol_at (item_in text item)) = c.depth_behind-depth.ensures.is ∙ ap (depth_behind depth) c.symbol_in.ensures in
    let over : ends_case depth (items_in text rest) ≡ false = sym c.ends_case.ensures ∙ c.items-test.true in (
      omega (arith, c.items.invariant.0, ap length c.in-Some.ensures),
      omega (arith, c.items.invariant.0, c.items.invariant.1, c.depth_behind-depth.ensures.within, ap length c.in-Some.ensures),
      all-rest (IsItemOf text) rest new item c.in-Some.ensures c.items.invariant.2,
      subst (All (IsItemOf text)) (sym c.in_ok-push.ensures.ok)
          (All-push (IsItemOf text) c.items.items item c.items.invariant.3 (All-head (IsItemOf text) item new (subst (All (IsItemOf text)) c.in-Some.ensures c.items.invariant.2))),
      ap (λ l. items_in text l ++ case_items now (items_in text new)) c.in_ok-push.ensures.ok
          ∙ ap (λ l. l ++ case_items now (items_in text new)) (map-append (item_in text) c.items.items (item ∷ []))
          ∙ append_assoc (items_in text c.items.items) (item_in text item ∷ []) (case_items now (items_in text new))
          ∙ ap (λ l. items_in text c.items.items ++ l)
          (sym (case_items-on text rest new item depth c.in-Some.ensures over ∙ ap (λ d. item_in text item ∷ case_items d (items_in text new)) (sym is)))
          ∙ c.items.invariant.4,
      sym (behind_case-on text rest new item depth c.in-Some.ensures over ∙ ap (λ d. behind_case d (items_in text new)) (sym is)) ∙ c.items.invariant.5,
    )
