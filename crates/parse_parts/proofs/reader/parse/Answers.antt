use Rattle.std.proofs.Common.{◌∙◌, Some, None, sym, subst, map, arith}
use Rattle.source_grammar.specs.Lexemes.{lexeme_of}
use Rattle.parse_parts.proofs.Places.{few-lexemes}
use Rattle.parse_parts.proofs.Readers.{with-best, found-behind, found-low, found-fits, not-here-at, part-at, reached-within, count-within}
use Rattle.parse_parts.specs.Parting.{IsTypeAt}
use Rattle.parse_parts.specs.Reading.{reader}
use Rattle.parse_parts.proofs.Answering.{reads}
use Rattle.parse_parts.proofs.reader.parse.Goals as goal

pub overflow_add-result : goal.overflow_add-result
overflow_add-result c =
    let within = reached-within reader c.args.text.now c.args.tokens.now _ _ _ c.in_ok-reading.ensures in omega (arith, within, c.requires.few)

pub returns-in-None : goal.returns-in-None
returns-in-None c =
    let ts = map (lexeme_of c.args.text.now) c.args.tokens.now in
    not-here-at reads ts c.args.at _ c.in_ok-reading.reading.reached (with-best reader ts _ _ _ None c.in_ok-reading.ensures c.in-None.is)

pub overflow_add-at : goal.overflow_add-at
overflow_add-at c =
    let ts = map (lexeme_of c.args.text.now) c.args.tokens.now in
    let within = count-within reads c.args.text.now c.args.tokens.now _ _ c.in-Some.count (with-best reader ts _ _ _ (Some c.in-Some.count) c.in_ok-reading.ensures c.in-Some.is) in
    omega (arith, within, c.requires.few)

pub part_of-requires-clause-low : goal.part_of-requires-clause-low
part_of-requires-clause-low c =
    let ts = map (lexeme_of c.args.text.now) c.args.tokens.now in
    let found = found-behind reads ts _ _ _ c.in-Some.count (with-best reader ts _ _ _ (Some c.in-Some.count) c.in_ok-reading.ensures c.in-Some.is) c.in_ok-state-in-Some.ensures in
    λ tall e. found-low reads ts c.in-Some.count c.in_ok-state-in-Some.state tall found (sym e ∙ c.in_ok-tall-in-Some.ensures)

pub part_of-requires-clause-few : goal.part_of-requires-clause-few
part_of-requires-clause-few c =
    let ts = map (lexeme_of c.args.text.now) c.args.tokens.now in
    let found = found-behind reads ts _ _ _ c.in-Some.count (with-best reader ts _ _ _ (Some c.in-Some.count) c.in_ok-reading.ensures c.in-Some.is) c.in_ok-state-in-Some.ensures in
    λ tall e. found-fits reads ts c.in-Some.count c.in_ok-state-in-Some.state tall found (sym e ∙ c.in_ok-tall-in-Some.ensures)
    (few-lexemes c.args.text.now c.args.tokens.now c.args.at c.requires.few)

pub returns-in_ok-tall-in-Some : goal.returns-in_ok-tall-in-Some
returns-in_ok-tall-in-Some c =
    let ts = map (lexeme_of c.args.text.now) c.args.tokens.now in
    let found = found-behind reads ts _ _ _ c.in-Some.count (with-best reader ts _ _ _ (Some c.in-Some.count) c.in_ok-reading.ensures c.in-Some.is) c.in_ok-state-in-Some.ensures in
    subst (IsTypeAt ts c.args.at) (sym c.part_of.ensures)
    (part-at reads ts c.args.at c.in-Some.count c.in_ok-state-in-Some.state c.in_ok-tall-in-Some.tall found c.in_ok-tall-in-Some.ensures)
