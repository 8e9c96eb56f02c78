use Rattle.scan_tokens.proofs.DivisionLaws.{pieces-division, pieces-unique}
use Rattle.scan_tokens.proofs.laws.law_one_division.Goals as goal

pub returns-clause-exists : goal.returns-clause-exists
returns-clause-exists c = pieces-division

pub returns-clause-only : goal.returns-clause-only
returns-clause-only c = pieces-unique
