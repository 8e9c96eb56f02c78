use Rattle.source_grammar.specs.Types.{IsType}
use Rattle.parse_parts.proofs.Exact.{one-tree}
use Rattle.parse_parts.proofs.Unique.{one-part}
use Rattle.parse_parts.proofs.laws.law_one_part.Goals as goal

pub returns : goal.returns
returns c = one-part IsType one-tree
