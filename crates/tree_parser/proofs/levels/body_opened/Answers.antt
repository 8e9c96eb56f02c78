use Rattle.std.proofs.Common.{None, ap, sym, subst, map}
use Rattle.std.specs.List.{All}
use Rattle.std.proofs.lemmas.List.Elements.{All-cons}
use Rattle.tree_parser.specs.Levels.{IsLevelOf, level_in}
use Rattle.tree_parser.proofs.levels.body_opened.Goals as goal

pub returns-clause-is : goal.returns-clause-is
returns-clause-is c =
    λ text i. record { current = c.level_at.ensures.is text i; around = ap (map (level_in text)) c.in_ok-push.ensures.ok i; plain = None }

pub returns-clause-words : goal.returns-clause-words
returns-clause-words c =
    λ text current around. record {
      current = c.level_at.ensures.words text;
      around = subst (All (IsLevelOf text)) (sym c.in_ok-push.ensures.ok) (All-cons (IsLevelOf text) c.args.current c.args.around current around);
      plain = λ x e. cc;
    }
