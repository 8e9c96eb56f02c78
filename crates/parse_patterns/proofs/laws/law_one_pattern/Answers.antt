use Rattle.source_grammar.specs.Patterns.{IsPattern}
use Rattle.parse_parts.proofs.Unique.{one-part}
use Rattle.parse_patterns.proofs.Exact.{one-tree}
use Rattle.parse_patterns.proofs.laws.law_one_pattern.Goals as goal

pub returns : goal.returns
returns c ts at p q a b = one-part IsPattern one-tree ts at p q a b
