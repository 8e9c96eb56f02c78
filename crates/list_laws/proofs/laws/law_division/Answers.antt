use Rattle.source_grammar.specs.Statements.{longest}
use Rattle.list_laws.proofs.Blocks.{divided-list, one-list, pieces-list}
use Rattle.list_laws.proofs.Proved.{given_laws}
use Rattle.list_laws.proofs.laws.law_division.Goals as goal

pub returns-clause-divided : goal.returns-clause-divided
returns-clause-divided c is n d = divided-list longest given_laws is n d

pub returns-clause-one : goal.returns-clause-one
returns-clause-one c is a b = one-list longest given_laws is a b

pub returns-clause-reader : goal.returns-clause-reader
returns-clause-reader c is n d a = pieces-list longest given_laws is n d a
