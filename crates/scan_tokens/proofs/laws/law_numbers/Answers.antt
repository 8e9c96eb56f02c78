use Rattle.scan_tokens.proofs.NumberLaws.{number_kind-is}
use Rattle.scan_tokens.proofs.laws.law_numbers.Goals as goal

pub returns : goal.returns
returns c = number_kind-is
