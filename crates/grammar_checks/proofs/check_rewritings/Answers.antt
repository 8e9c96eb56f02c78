use Rattle.std.proofs.Common.{refl, [], ◌∷◌, ap, codes}
use Rattle.std.specs.Str.{chars}
use Rattle.pc_terms.specs.declared.tree_kinds.TreeKind.TheVariants as kind
use Rattle.scan_tokens.specs.Characters.{class_of}
use Rattle.source_grammar.specs.Precedence.{joined, precedence, is_assignment, is_right}
use Rattle.source_grammar.specs.Spans.{unlabelled}
use Rattle.grammar_checks.proofs.SpanLemmas.{span_in-labelled}
use Rattle.grammar_checks.specs.Trees.{span, ident, literal, method}
use Rattle.grammar_checks.proofs.check_rewritings.Goals as goal

pub returns-clause-prefix : goal.returns-clause-prefix
unfolding joined precedence is_assignment is_right class_of chars
returns-clause-prefix c = refl

pub returns-clause-update : goal.returns-clause-update
unfolding joined precedence is_assignment is_right class_of chars
returns-clause-update c =
    ap (λ s. unlabelled kind.Apply (span 0 8) (method (codes "update") s s (ident (codes "a") 0 1) ∷ literal (codes "1") 2 3 ∷ literal (codes "2") 7 8 ∷ []))
    (span_in-labelled kind.Ident (codes "a") (span 0 1) (span 0 1) [])
