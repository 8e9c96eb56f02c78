use Rattle.source_grammar.specs.Statements.{longest}
use Rattle.expr_laws.proofs.Exactness.{best-items, empty-longest, stuck-items}
use Rattle.expr_laws.proofs.laws.law_longest_items.Goals as goal

pub returns-clause-best : goal.returns-clause-best
returns-clause-best c follows is n = best-items longest empty-longest follows is n

pub returns-clause-stuck : goal.returns-clause-stuck
returns-clause-stuck c follows is n = stuck-items longest empty-longest follows is n
