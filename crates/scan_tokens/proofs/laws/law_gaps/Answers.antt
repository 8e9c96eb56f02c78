use Rattle.scan_tokens.proofs.GapLaws.{newline_in-is}
use Rattle.scan_tokens.proofs.laws.law_gaps.Goals as goal

pub returns : goal.returns
returns c = newline_in-is
