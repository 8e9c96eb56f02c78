use Rattle.parse_patterns.proofs.Loops.{IsRead}
use Rattle.parse_patterns.proofs.reader.read.Given as goal

abbrev pub invariant-loop-token : goal.invariant-loop-token
invariant-loop-token l = IsRead l.text l.tokens l.token-index l.reached l.best l.state
