use Rattle.std.proofs.Common.{◌≡◌, drop, map}
use Rattle.reading_machines.specs.Parts.{anything}
use Rattle.source_grammar.specs.Lexemes.{lexeme_of}
use Rattle.parse_exprs.specs.Levels.{AreLevelsOf, levels_in, reader}
use Rattle.parse_exprs.proofs.Loops.{LeadsOn}
use Rattle.parse_exprs.proofs.reader.read.Given as goal

-- the levels behind the tokens so far; the tokens that are left lead to the same reading
abbrev pub invariant-loop-token : goal.invariant-loop-token
invariant-loop-token l =
    record {
      count : l.reached ≡ l.token-index;
      words : AreLevelsOf l.text l.levels;
      leads : LeadsOn reader anything (map (lexeme_of l.text) l.tokens) (map (lexeme_of l.text) (drop l.token-index l.tokens))
          l.reached l.best (levels_in l.text l.levels);
    }
