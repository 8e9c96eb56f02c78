use Rattle.std.proofs.Common.{Ok, Err}
use Rattle.session_input.proofs.ReadLemmas.{given_is_told, refused_is_told, fault_or_told}
use Rattle.session_input.proofs.laws.law_told_readings.Goals as goal

pub returns-clause-given : goal.returns-clause-given
returns-clause-given g c = λ content reading a b is comes. let e = given_is_told content reading a (Ok b) is comes in cc

pub returns-clause-not_given : goal.returns-clause-not_given
returns-clause-not_given g c = λ content reading a why is comes. let e = given_is_told content reading a (Err why) is comes in cc

pub returns-clause-refused : goal.returns-clause-refused
returns-clause-refused g c = λ content reading why other is comes. refused_is_told content reading why other is comes

pub returns-clause-not_refused : goal.returns-clause-not_refused
returns-clause-not_refused g c = λ content reading a why is comes. fault_or_told content reading a why is comes
