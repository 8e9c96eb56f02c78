use Rattle.std.proofs.Common.{◌∙◌, sym}
use Rattle.source_grammar.proofs.NotEmpty.{pat-full}
use Rattle.source_grammar.proofs.laws.law_patterns.Goals as goal

pub returns-clause-tokens : goal.returns-clause-tokens
returns-clause-tokens c xs tree pattern none = pat-full pattern.derivation (sym pattern.tokens ∙ none)
