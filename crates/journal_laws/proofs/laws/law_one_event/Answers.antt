use Rattle.journal_laws.proofs.Others.{sources_settled, settled_one, files_checked}
use Rattle.journal_laws.proofs.laws.law_one_event.Goals as goal

pub returns-clause-sources : goal.returns-clause-sources
returns-clause-sources c = sources_settled

pub returns-clause-settled : goal.returns-clause-settled
returns-clause-settled c = settled_one

pub returns-clause-files : goal.returns-clause-files
returns-clause-files c = files_checked
