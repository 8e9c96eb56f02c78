use Rattle.std.proofs.Common.{◌∙◌, ap, sym, map, length-take-le}
use Rattle.std.proofs.lemmas.List.{take-map}
use Rattle.source_grammar.specs.Lexemes.{lexeme_of}
use Rattle.reading_machines.specs.Machines.{reading_of}
use Rattle.reading_machines.specs.Parts.{anything}
use Rattle.parse_parts.proofs.Readers.{behind-here, behind-again, count-within}
use Rattle.parse_parts.specs.Reading.{reader}
use Rattle.parse_parts.proofs.Answering.{reads}
use Rattle.parse_parts.proofs.reader.state_behind.Goals as goal

pub slice_bounds-read-end : goal.slice_bounds-read-end
slice_bounds-read-end c =
    sym (length-take-le c.args.count c.args.tokens.now (count-within reads c.args.text.now c.args.tokens.now _ _ c.args.count c.requires.longest))

pub returns-then-count-reading : goal.returns-then-count-reading
returns-then-count-reading c =
    behind-here reader (map (lexeme_of c.args.text.now) c.args.tokens.now) _ c.args.reading.reached c.args.count _ c.requires.longest c.if-count-reading.true

pub returns : goal.returns
returns c =
    behind-again reader (map (lexeme_of c.args.text.now) c.args.tokens.now) _ _ c.args.reading.reached c.args.count _ _ c.requires.longest
    (ap (reading_of reader anything) (take-map (lexeme_of c.args.text.now) c.args.count c.args.tokens.now) ∙ c.in_ok-again.ensures)
