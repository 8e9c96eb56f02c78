use Rattle.journal_laws.proofs.Tickets.{none_before, none_behind, one_call}
use Rattle.journal_laws.proofs.laws.law_tickets_have_one_call.Goals as goal

pub returns-clause-before : goal.returns-clause-before
returns-clause-before c = none_before

pub returns-clause-behind : goal.returns-clause-behind
returns-clause-behind c = none_behind

pub returns-clause-call : goal.returns-clause-call
returns-clause-call c = one_call
