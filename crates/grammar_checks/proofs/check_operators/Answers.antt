use Rattle.std.proofs.Common.{[], ◌∷◌, ap, ◌∙◌, codes}
use Rattle.std.specs.Str.{chars}
use Rattle.pc_terms.specs.declared.tree_kinds.TreeKind.TheVariants as kind
use Rattle.scan_tokens.specs.Characters.{class_of}
use Rattle.source_grammar.specs.Precedence.{joined, precedence, is_assignment, is_right}
use Rattle.source_grammar.specs.Spans.{labelled, unlabelled, span_in, enclosing}
use Rattle.grammar_checks.proofs.SpanLemmas.{span_in-labelled}
use Rattle.grammar_checks.specs.Trees.{span, ident, literal, method}
use Rattle.grammar_checks.proofs.check_operators.Goals as goal

pub returns-clause-precedence : goal.returns-clause-precedence
unfolding joined precedence is_assignment is_right class_of chars
returns-clause-precedence c =
    ap (λ s. unlabelled kind.Apply (span 0 9)
    (method (codes "+") (span 2 3) (enclosing s (span 2 3)) (ident (codes "a") 0 1)
    ∷ unlabelled kind.Apply (span 4 9)
    (method (codes "*") (span 6 7) (enclosing (span_in (ident (codes "b") 4 5)) (span 6 7)) (ident (codes "b") 4 5) ∷ ident (codes "c") 8 9 ∷ [])
    ∷ []))
    (span_in-labelled kind.Ident (codes "a") (span 0 1) (span 0 1) [])
    ∙ ap (λ s. unlabelled kind.Apply (span 0 9)
    (method (codes "+") (span 2 3) (span 0 3) (ident (codes "a") 0 1)
    ∷ unlabelled kind.Apply (span 4 9) (method (codes "*") (span 6 7) (enclosing s (span 6 7)) (ident (codes "b") 4 5) ∷ ident (codes "c") 8 9 ∷ [])
    ∷ []))
    (span_in-labelled kind.Ident (codes "b") (span 4 5) (span 4 5) [])

pub returns-clause-left : goal.returns-clause-left
unfolding joined precedence is_assignment is_right class_of chars
returns-clause-left c =
    ap (λ s. unlabelled kind.Apply (span 0 9)
    (method (codes "-") (span 6 7) (enclosing s (span 6 7))
    (unlabelled kind.Apply (span 0 5)
    (method (codes "-") (span 2 3) (enclosing (span_in (ident (codes "a") 0 1)) (span 2 3)) (ident (codes "a") 0 1) ∷ ident (codes "b") 4 5 ∷ []))
    ∷ ident (codes "c") 8 9 ∷ []))
    (span_in-labelled kind.Apply [] (span 0 5) (span 0 5)
    (method (codes "-") (span 2 3) (enclosing (span_in (ident (codes "a") 0 1)) (span 2 3)) (ident (codes "a") 0 1) ∷ ident (codes "b") 4 5 ∷ []))
    ∙ ap (λ s. unlabelled kind.Apply (span 0 9)
    (method (codes "-") (span 6 7) (span 0 7)
    (unlabelled kind.Apply (span 0 5) (method (codes "-") (span 2 3) (enclosing s (span 2 3)) (ident (codes "a") 0 1) ∷ ident (codes "b") 4 5 ∷ []))
    ∷ ident (codes "c") 8 9 ∷ []))
    (span_in-labelled kind.Ident (codes "a") (span 0 1) (span 0 1) [])

pub returns-clause-right : goal.returns-clause-right
unfolding joined precedence is_assignment is_right class_of chars
returns-clause-right c =
    ap (λ s. unlabelled kind.Apply (span 0 7)
    (method (codes "::") (span 2 4) (enclosing s (span 2 4)) (ident (codes "xs") 5 7) ∷ literal (codes "1") 0 1 ∷ []))
    (span_in-labelled kind.Ident (codes "xs") (span 5 7) (span 5 7) [])

pub returns-clause-assignment : goal.returns-clause-assignment
unfolding joined precedence is_assignment is_right class_of chars
returns-clause-assignment c =
    ap (λ s. labelled kind.OpAssign (codes "+=") (span 2 4) (span 0 10)
    (ident (codes "a") 0 1
    ∷ unlabelled kind.Apply (span 5 10) (method (codes "+") (span 7 8) (enclosing s (span 7 8)) (ident (codes "b") 5 6) ∷ ident (codes "c") 9 10 ∷ [])
    ∷ []))
    (span_in-labelled kind.Ident (codes "b") (span 5 6) (span 5 6) [])
