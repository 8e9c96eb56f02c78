use Rattle.source_grammar.specs.Statements.{longest}
use Rattle.expr_laws.proofs.ModsExact.{mods-complete, mods-sound, one-mods}
use Rattle.expr_laws.proofs.def_laws.law_modifiers.Goals as goal

pub returns-clause-complete : goal.returns-clause-complete
returns-clause-complete c after is a = (let there = mods-complete longest after is a in (there.end, there.found, there.runs, there.ends, there.says))

pub returns-clause-sound : goal.returns-clause-sound
returns-clause-sound c after is s r w = mods-sound longest after is s r w

pub returns-clause-one : goal.returns-clause-one
returns-clause-one c after is a b = one-mods longest after is a b
