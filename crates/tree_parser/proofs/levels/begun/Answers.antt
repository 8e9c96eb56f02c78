use Rattle.std.proofs.Common.{None, sym, subst, map}
use Rattle.std.specs.List.{All}
use Rattle.std.proofs.lemmas.List.Elements.{All-nil}
use Rattle.tree_parser.specs.Levels.{IsLevelOf, level_in}
use Rattle.tree_parser.proofs.levels.begun.Goals as goal

pub returns-clause-is : goal.returns-clause-is
returns-clause-is c = λ text i. record { current = c.level_at.ensures.is text i; around = map (level_in text) (c.new.ensures i); plain = None }

pub returns-clause-words : goal.returns-clause-words
returns-clause-words c =
    λ text. record { current = c.level_at.ensures.words text; around = subst (All (IsLevelOf text)) (sym c.new.ensures) (All-nil (IsLevelOf text)); plain = λ x e. cc }
