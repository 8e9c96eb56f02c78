use Rattle.std.proofs.Common.{refl}
use Rattle.std.specs.Str.{chars}
use Rattle.scan_tokens.specs.Characters.{class_of}
use Rattle.source_grammar.specs.Precedence.{joined, precedence, is_assignment, is_right}
use Rattle.grammar_checks.proofs.check_infix_pattern.Goals as goal

pub returns : goal.returns
unfolding joined precedence is_assignment is_right class_of chars
returns c = refl
