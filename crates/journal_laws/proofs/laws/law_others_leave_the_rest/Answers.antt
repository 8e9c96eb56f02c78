use Rattle.journal_laws.proofs.Others.{others_stay}
use Rattle.journal_laws.proofs.laws.law_others_leave_the_rest.Goals as goal

pub returns : goal.returns
returns c = others_stay
