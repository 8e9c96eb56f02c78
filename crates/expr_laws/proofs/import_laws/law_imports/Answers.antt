use Rattle.expr_laws.proofs.ImportsExact.{import-built, one-import, reads-import}
use Rattle.expr_laws.proofs.import_laws.law_imports.Goals as goal

pub returns-clause-exact : goal.returns-clause-exact
returns-clause-exact c word = reads-import word

pub returns-clause-one : goal.returns-clause-one
returns-clause-one c word is a b = one-import word is a b

pub returns-clause-tree : goal.returns-clause-tree
returns-clause-tree c word is a s e = import-built word is a s e
