use Rattle.std.proofs.Common.{refl}
use Rattle.positioned_trees.specs.declared.trees.Tree.TheViews.{out-roll-Tree}
use Rattle.grammar_checks.proofs.check_types.Goals as goal

pub returns-clause-twice : goal.returns-clause-twice
returns-clause-twice c = refl

pub returns-clause-two : goal.returns-clause-two
returns-clause-two c = refl

pub returns-clause-parentheses : goal.returns-clause-parentheses
returns-clause-parentheses c = refl

pub returns-clause-singleton : goal.returns-clause-singleton
returns-clause-singleton c = simp out-roll-Tree refl
