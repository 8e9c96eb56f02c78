use Rattle.source_grammar.specs.Statements.{longest}
use Rattle.expr_laws.proofs.DefsExact.{def-tree, one-def, reads-definitions}
use Rattle.expr_laws.proofs.Exactness.{empty-longest}
use Rattle.expr_laws.proofs.def_laws.law_definitions.Goals as goal

pub returns-clause-exact : goal.returns-clause-exact
returns-clause-exact c = reads-definitions longest empty-longest

pub returns-clause-one_def : goal.returns-clause-one_def
returns-clause-one_def c is a b = (one-def longest is a b).def

pub returns-clause-one_mods : goal.returns-clause-one_mods
returns-clause-one_mods c is a b = (one-def longest is a b).mods

pub returns-clause-tree : goal.returns-clause-tree
returns-clause-tree c is a s k e = def-tree longest is a s k e
