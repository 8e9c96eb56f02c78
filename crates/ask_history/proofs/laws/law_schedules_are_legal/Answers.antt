use Rattle.ask_history.proofs.Plays.{holds-schedule, all_settled-schedule}
use Rattle.ask_history.proofs.laws.law_schedules_are_legal.Goals as goal

pub returns-clause-legal : goal.returns-clause-legal
returns-clause-legal c = λ without lines. (holds-schedule without lines).legal

pub returns-clause-settled : goal.returns-clause-settled
returns-clause-settled c = all_settled-schedule
