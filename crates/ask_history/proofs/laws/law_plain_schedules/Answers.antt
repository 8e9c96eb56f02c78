use Rattle.ask_history.proofs.Plainly.{plain-schedule}
use Rattle.ask_history.proofs.laws.law_plain_schedules.Goals as goal

pub returns : goal.returns
returns c = plain-schedule
