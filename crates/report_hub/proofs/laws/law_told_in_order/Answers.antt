use Rattle.report_hub.proofs.Reports.{OfEach-told_none, OfEach-told_more}
use Rattle.report_hub.proofs.laws.law_told_in_order.Goals as goal

pub returns-clause-none : goal.returns-clause-none
returns-clause-none g c = OfEach-told_none _ _ _

pub returns-clause-one_more : goal.returns-clause-one_more
returns-clause-one_more g c = OfEach-told_more _ _
