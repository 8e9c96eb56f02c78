use Rattle.std.proofs.Common.{◌≡◌, [], drop, map, max}
use Rattle.source_grammar.specs.Brackets.{unmatched, most_open}
use Rattle.source_grammar.specs.Lexemes.{lexeme_of}
use Rattle.tree_parser.specs.Bracketed.{all_opened}
use Rattle.tree_parser.proofs.brackets.brackets_of.Given as goal

-- the brackets that are open, over the tokens that are left, come to the same
abbrev pub invariant-loop-token : goal.invariant-loop-token
invariant-loop-token l =
    (unmatched (all_opened l.opened) (map (lexeme_of l.text) (drop l.token-index l.tokens)) ≡ unmatched [] (map (lexeme_of l.text) l.tokens))
    × (max l.most (most_open (all_opened l.opened) (map (lexeme_of l.text) (drop l.token-index l.tokens)))
    ≡ most_open [] (map (lexeme_of l.text) l.tokens))
