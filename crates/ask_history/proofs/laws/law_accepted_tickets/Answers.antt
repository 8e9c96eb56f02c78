use Rattle.ask_history.proofs.Pushes.{is_some-call_of}
use Rattle.ask_history.proofs.Accepted.{settled_accepted}
use Rattle.ask_history.proofs.laws.law_accepted_tickets.Goals as goal

pub returns : goal.returns
returns c = record { accepted = is_some-call_of; settled = settled_accepted }
