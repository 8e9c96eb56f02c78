use Rattle.journal_laws.proofs.Settling.{next_below, next_kept, next_settled, next_ask}
use Rattle.journal_laws.proofs.laws.law_next_tickets.Goals as goal

pub returns-clause-below : goal.returns-clause-below
returns-clause-below c = next_below

pub returns-clause-kept : goal.returns-clause-kept
returns-clause-kept c = next_kept

pub returns-clause-settled : goal.returns-clause-settled
returns-clause-settled c = next_settled

pub returns-clause-ask : goal.returns-clause-ask
returns-clause-ask c = next_ask
