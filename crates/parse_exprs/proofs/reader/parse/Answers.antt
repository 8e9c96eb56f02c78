use Rattle.std.proofs.Common.{ap, map, sym, length-take-le, ◌∙◌, arith}
use Rattle.std.proofs.lemmas.List.{take-map}
use Rattle.source_grammar.specs.Lexemes.{lexeme_of}
use Rattle.parse_exprs.specs.Levels.{reader, tree_of}
use Rattle.parse_exprs.specs.Parting.{items_of}
use Rattle.parse_exprs.proofs.Parted.{found-part}
use Rattle.parse_exprs.proofs.Reaching.{count-few, reached-few}
use Rattle.parse_exprs.proofs.reader.parse.Goals as goal

pub overflow_add-result : goal.overflow_add-result
overflow_add-result c =
    let within = reached-few reader c.args.text.now c.args.tokens.now _ c.in_ok-levels.ensures.reached in omega (arith, within, c.requires.few)

pub slice_bounds-items_of-end : goal.slice_bounds-items_of-end
slice_bounds-items_of-end c =
    sym (length-take-le c.in-Some.count c.args.tokens.now
    (count-few reader c.args.text.now c.args.tokens.now c.in-Some.count (sym c.in_ok-levels.ensures.best ∙ c.in-Some.is)))

pub overflow_add-at : goal.overflow_add-at
overflow_add-at c =
    let within = count-few reader c.args.text.now c.args.tokens.now c.in-Some.count (sym c.in_ok-levels.ensures.best ∙ c.in-Some.is) in
    omega (arith, within, c.requires.few)

pub returns-in_ok-tall-in-Some : goal.returns-in_ok-tall-in-Some
returns-in_ok-tall-in-Some c =
    let ts = map (lexeme_of c.args.text.now) c.args.tokens.now in
    found-part ts c.args.at c.in-Some.count c.in_ok-tall-in-Some.tall c.part_of.result (sym c.in_ok-levels.ensures.best ∙ c.in-Some.is)
    (c.in_ok-tall-in-Some.ensures
    ∙ ap tree_of (c.in_ok-items-in-Some.ensures.is ∙ ap items_of (sym (take-map (lexeme_of c.args.text.now) c.in-Some.count c.args.tokens.now))))
    c.part_of.ensures
