use Rattle.parse_parts.proofs.Loops.{IsRead}
use Rattle.parse_parts.proofs.reader.read.Given as goal

abbrev pub invariant-loop-token : goal.invariant-loop-token
invariant-loop-token l = IsRead l.text l.tokens l.token-index l.reached l.best l.state
