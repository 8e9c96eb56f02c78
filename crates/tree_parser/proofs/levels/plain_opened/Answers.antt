use Rattle.std.proofs.Common.{Some, map, subst}
use Rattle.std.proofs.lemmas.Option.{same_Some}
use Rattle.tree_parser.specs.Levels.{level_in}
use Rattle.tree_parser.specs.Plain.{AreLevelsOf}
use Rattle.tree_parser.proofs.levels.plain_opened.Goals as goal

pub returns-clause-is : goal.returns-clause-is
returns-clause-is c =
    λ text i. record { current = level_in text c.args.current; around = map (level_in text) c.args.around; plain = Some (c.plain_begun.ensures.is text i) }

pub returns-clause-words : goal.returns-clause-words
returns-clause-words c =
    λ text current around. record {
      current = current;
      around = around;
      plain = λ x e. subst (AreLevelsOf text) (same_Some _ x e) (c.plain_begun.ensures.words text);
    }
