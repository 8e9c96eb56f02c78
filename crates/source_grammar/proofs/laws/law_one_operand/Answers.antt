use Rattle.std.proofs.Common.{refl}
use Rattle.source_grammar.specs.Precedence.{joined}
use Rattle.source_grammar.proofs.laws.law_one_operand.Goals as goal

pub returns : goal.returns
unfolding joined
returns c join a = refl
