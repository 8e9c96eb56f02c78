use Rattle.scan_tokens.proofs.ProblemOrder.{problems-order}
use Rattle.scan_tokens.proofs.ScannedLemmas.{scanned-order}
use Rattle.scan_tokens.proofs.laws.law_order.Goals as goal

pub returns-clause-tokens : goal.returns-clause-tokens
returns-clause-tokens c = scanned-order

pub returns-clause-problems : goal.returns-clause-problems
returns-clause-problems c = problems-order
