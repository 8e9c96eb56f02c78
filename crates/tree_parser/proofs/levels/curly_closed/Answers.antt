use Rattle.std.proofs.Common.{◌≡◌, map, subst}
use Rattle.std.specs.List.{All}
use Rattle.std.proofs.lemmas.List.Elements.{All-head, All-tail}
use Rattle.source_grammar.specs.Lexemes.{lexeme_of}
use Rattle.tree_parser.specs.Levels.{IsLevelOf, level_in}
use Rattle.tree_parser.proofs.Closing.{body_closed}
use Rattle.tree_parser.proofs.levels.curly_closed.Goals as goal

pub returns-in_ok-with_body-in-Some-clause-is : goal.returns-in_ok-with_body-in-Some-clause-is
returns-in_ok-with_body-in-Some-clause-is c =
    let text = c.args.text.now in
    body_closed text (map (lexeme_of text) c.args.tokens.now) (level_in text c.args.current) c.in-Some.outer c.in_ok-with_body-in-Some.field-0 c.pop.new.self c.args.around
    c.args.token c.args.at c.in_ok-body-in-Some.body c.in-Some.ensures c.in_ok-body-in-Some.ensures (c.in_ok-with_body-in-Some.ensures.is text)

pub returns-in_ok-with_body-in-Some-clause-words : goal.returns-in_ok-with_body-in-Some-clause-words
returns-in_ok-with_body-in-Some-clause-words c =
    let text = c.args.text.now in
    let all = subst (All (IsLevelOf text)) c.in-Some.ensures c.requires.around in
    record {
      current = c.in_ok-with_body-in-Some.ensures.words text (All-head (IsLevelOf text) c.in-Some.outer c.pop.new.self all);
      around = All-tail (IsLevelOf text) c.in-Some.outer c.pop.new.self all;
      plain = λ x e. cc;
    }
