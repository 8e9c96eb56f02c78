use Rattle.list_laws.proofs.Given.{as-built, as-divided}
use Rattle.list_laws.proofs.Proved.{given_laws}
use Rattle.list_laws.proofs.laws.law_lists.Goals as goal

pub returns-clause-division : goal.returns-clause-division
returns-clause-division c is a d = as-divided given_laws is a d

pub returns-clause-tree : goal.returns-clause-tree
returns-clause-tree c is a few = as-built given_laws is a few
