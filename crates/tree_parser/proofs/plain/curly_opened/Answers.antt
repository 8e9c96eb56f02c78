use Rattle.std.proofs.Common.{ap, sym, ◌∙◌, subst, map}
use Rattle.std.specs.List.{All}
use Rattle.std.proofs.lemmas.List.Elements.{All-cons}
use Rattle.source_grammar.specs.Lexemes.{lexeme_of}
use Rattle.tree_parser.specs.Plain.{IsLevelOf, level_in, level_at}
use Rattle.tree_parser.proofs.plain.curly_opened.Goals as goal

pub returns-clause-is : goal.returns-clause-is
returns-clause-is c =
    let text = c.args.text.now in
    λ i. record {
      current = (c.level_at.ensures.is text ∙ ap (level_at (lexeme_of text c.args.token)) c.opening_of-opening.ensures) i;
      around = ap (map (level_in text)) c.in_ok-push.ensures.ok i;
    }

pub returns-clause-words : goal.returns-clause-words
returns-clause-words c =
    let text = c.args.text.now in
    record {
      current = c.level_at.ensures.words text;
      around = subst (All (IsLevelOf text)) (sym c.in_ok-push.ensures.ok)
          (All-cons (IsLevelOf text) c.args.levels.current c.args.levels.around c.requires.current c.requires.around);
    }
