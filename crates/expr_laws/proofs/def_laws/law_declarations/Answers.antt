use Rattle.source_grammar.specs.Statements.{longest}
use Rattle.expr_laws.proofs.DclsExact.{dcl-complete, dcl-sound, dcl-tree, one-dcl}
use Rattle.expr_laws.proofs.def_laws.law_declarations.Goals as goal

pub returns-clause-complete : goal.returns-clause-complete
returns-clause-complete c is a = dcl-complete longest is a

pub returns-clause-sound : goal.returns-clause-sound
returns-clause-sound c is s r w = dcl-sound longest is s r w

pub returns-clause-one_dcl : goal.returns-clause-one_dcl
returns-clause-one_dcl c is a b = (one-dcl longest is a b).dcl

pub returns-clause-one_mods : goal.returns-clause-one_mods
returns-clause-one_mods c is a b = (one-dcl longest is a b).mods

pub returns-clause-tree : goal.returns-clause-tree
returns-clause-tree c is a s k e = dcl-tree longest is a s k e
