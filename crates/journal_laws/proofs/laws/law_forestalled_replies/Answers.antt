use Rattle.journal_laws.proofs.Others.{forestalled_reply}
use Rattle.journal_laws.proofs.laws.law_forestalled_replies.Goals as goal

pub returns : goal.returns
returns c = forestalled_reply
