use Rattle.scan_tokens.proofs.ScannedLemmas.{scanned-first, scanned-between}
use Rattle.scan_tokens.proofs.laws.law_newlines.Goals as goal

pub returns-clause-first : goal.returns-clause-first
returns-clause-first c = scanned-first

pub returns-clause-between : goal.returns-clause-between
returns-clause-between c = scanned-between
