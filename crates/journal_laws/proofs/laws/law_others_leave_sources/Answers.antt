use Rattle.journal_laws.proofs.Others.{others_leave_sources, others_leave_files}
use Rattle.journal_laws.proofs.laws.law_others_leave_sources.Goals as goal

pub returns-clause-sources : goal.returns-clause-sources
returns-clause-sources c = others_leave_sources

pub returns-clause-files : goal.returns-clause-files
returns-clause-files c = others_leave_files
