use Rattle.std.proofs.Common.{◌≡◌, ◌+◌, drop, map}
use Rattle.source_grammar.specs.Lexemes.{lexeme_of}
use Rattle.tree_parser.specs.Packaged.{semicolons}
use Rattle.tree_parser.proofs.packages.semicolons.Given as goal

abbrev pub invariant-loop-token : goal.invariant-loop-token
invariant-loop-token l =
    (l.count ≡ l.token-index)
    × (l.count + semicolons (map (lexeme_of l.text) (drop l.token-index l.tokens)) ≡ semicolons (map (lexeme_of l.text) l.tokens))
