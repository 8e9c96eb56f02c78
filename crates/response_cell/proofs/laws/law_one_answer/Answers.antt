use Rattle.response_cell.proofs.Answered.{answered}
use Rattle.response_cell.proofs.laws.law_one_answer.Goals as goal

pub returns : goal.returns
returns c = answered
