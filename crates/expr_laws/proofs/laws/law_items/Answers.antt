use Rattle.source_grammar.specs.Statements.{longest}
use Rattle.expr_laws.proofs.Exactness.{empty-longest, one, reads-items, tree}
use Rattle.expr_laws.proofs.laws.law_items.Goals as goal

pub returns-clause-exact : goal.returns-clause-exact
returns-clause-exact c = reads-items longest empty-longest

pub returns-clause-one : goal.returns-clause-one
returns-clause-one c is a b = one longest is a b

pub returns-clause-tree : goal.returns-clause-tree
returns-clause-tree c is a s e = tree longest is a s e
