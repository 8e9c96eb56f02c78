use Rattle.expr_laws.proofs.ImportsExact.{one-selectors, reads-selectors, selectors-tree}
use Rattle.expr_laws.proofs.import_laws.law_selectors.Goals as goal

pub returns-clause-exact : goal.returns-clause-exact
returns-clause-exact c = reads-selectors

pub returns-clause-one : goal.returns-clause-one
returns-clause-one c xs a b = one-selectors xs a b

pub returns-clause-read : goal.returns-clause-read
returns-clause-read c xs a s e = selectors-tree xs a s e
