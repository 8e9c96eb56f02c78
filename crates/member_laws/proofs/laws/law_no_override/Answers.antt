use Rattle.member_laws.proofs.Gathered.{members-apart}
use Rattle.member_laws.proofs.laws.law_no_override.Goals as goal

pub returns : goal.returns
returns c = λ known declared ty members h. members-apart known declared ty members h
