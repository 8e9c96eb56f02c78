use Rattle.std.proofs.Common.{◌∙◌, sym}
use Rattle.source_grammar.proofs.NotEmpty.{type-full}
use Rattle.source_grammar.proofs.laws.law_types.Goals as goal

pub returns-clause-tokens : goal.returns-clause-tokens
returns-clause-tokens c xs tree type none = type-full type.derivation (sym type.tokens ∙ none)
