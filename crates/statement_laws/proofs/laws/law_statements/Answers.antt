use Rattle.source_grammar.specs.Statements.{longest}
use Rattle.expr_laws.proofs.Exactness.{empty-longest}
use Rattle.statement_laws.specs.Statements.{statement_items}
use Rattle.statement_laws.proofs.Exact.{one, reads-statements, tree}
use Rattle.statement_laws.proofs.StatementTokens.{statement-tokens}
use Rattle.statement_laws.proofs.laws.law_statements.Goals as goal

pub returns-clause-exact : goal.returns-clause-exact
returns-clause-exact c = reads-statements longest empty-longest

pub returns-clause-one : goal.returns-clause-one
returns-clause-one c is a b = one longest empty-longest is a b

pub returns-clause-tokens : goal.returns-clause-tokens
returns-clause-tokens c is a = statement-tokens a.derivation (statement_items longest is) a.items

pub returns-clause-tree : goal.returns-clause-tree
returns-clause-tree c is a s k e = tree longest empty-longest is a s k e
