use Rattle.source_grammar.specs.Statements.{longest}
use Rattle.expr_laws.proofs.GuardExactness.{guard-reads, guard-sound, one-guard}
use Rattle.expr_laws.proofs.laws.law_guards.Goals as goal

pub returns-clause-complete : goal.returns-clause-complete
returns-clause-complete c is a = guard-reads longest is a

pub returns-clause-one : goal.returns-clause-one
returns-clause-one c is a b = one-guard longest is a b

pub returns-clause-sound : goal.returns-clause-sound
returns-clause-sound c is s n h r w = guard-sound longest is s n h r w
