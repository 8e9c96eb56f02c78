use Rattle.std.proofs.lemmas.Result.{IfOk-weaker}
use Rattle.std.proofs.Common.{◌≡◌, sym, ◌∙◌, refl}
use Rattle.tree_parser.proofs.PlainReading.{read_as_plain}
use Rattle.tree_parser.proofs.levels.plain_reading.Goals as goal

pub returns-then-place-at : goal.returns-then-place-at
returns-then-place-at c =
    IfOk-weaker c.plain_braces.result _ _
    (λ found is. is ∙ read_as_plain c.args.text.now c.args.tokens.now _ c.args.place c.args.at c.args.outer
    c.if-place.true (sym c.is_unit.ensures ∙ c.if-not-is_unit.true) c.if-place-at.true refl)
    c.plain_braces.ensures
