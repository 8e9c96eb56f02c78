use Rattle.std.proofs.Common.{◌≡◌, ap, sym, ◌∙◌}
use Rattle.parse_exprs.specs.Levels.{opening_behind}
use Rattle.parse_exprs.specs.declared.contents.Opening.TheVariants.{Other}
use Rattle.template_steps.specs.Pieces.{parts_in}
use Rattle.tree_parser.specs.Levels.{opening_of}
use Rattle.tree_parser.proofs.Openings.{opening_of_last}
use Rattle.tree_parser.proofs.levels.opening_of.Goals as goal

pub returns-in-Some : goal.returns-in-Some
returns-in-Some c =
    let text = c.args.text.now in
    c.opening_behind.ensures ∙ ap opening_behind c.symbol_in.ensures ∙ sym (opening_of_last text c.in-Some.field-0-1.now c.in-Some.last.now Other)
    ∙ ap (λ l. opening_of Other (parts_in text l)) (sym c.in-Some.ensures.cases.0 ∙ c.as_slice.ensures)
