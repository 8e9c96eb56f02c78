use Rattle.source_grammar.specs.Statements.{longest}
use Rattle.expr_laws.proofs.Exactness.{empty-longest}
use Rattle.statement_laws.proofs.Longest.{best-statement, stuck-statement}
use Rattle.statement_laws.proofs.laws.law_longest_statement.Goals as goal

pub returns-clause-best : goal.returns-clause-best
returns-clause-best c follows is n d = best-statement longest empty-longest follows is n d

pub returns-clause-stuck : goal.returns-clause-stuck
returns-clause-stuck c follows is n d = stuck-statement longest empty-longest follows is n d
