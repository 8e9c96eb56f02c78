-- The trees of the samples, worked out from the rules of the language.
use Rattle.std.specs.Prelude.{ℕ, [], ◌∷◌, false, codes}
use Rattle.pc_terms.specs.declared.problems.Span.{Span}
use Rattle.pc_terms.specs.declared.tree_kinds.TreeKind.{TreeKind}
use Rattle.pc_terms.specs.declared.tree_kinds.TreeKind.TheVariants as kind
use Rattle.positioned_trees.specs.declared.details.Detail.TheVariants.{Placeholder}
use Rattle.positioned_trees.specs.declared.trees.Tree.{Tree}
use Rattle.scan_tokens.specs.Words.{Bytes}
use Rattle.source_grammar.specs.Placeholders.{lambda_param}
use Rattle.source_grammar.specs.Spans.{labelled, unlabelled, with_detail, added}

abbrev pub span : ℕ → ℕ → Span
span start end = record { start = start; end = end }

abbrev pub leaf : TreeKind → Bytes → ℕ → ℕ → Tree
leaf kind name start end = labelled kind name (span start end) (span start end) []

abbrev pub type_named : Bytes → ℕ → ℕ → Tree
type_named = leaf kind.TypeIdent

abbrev pub ident : Bytes → ℕ → ℕ → Tree
ident = leaf kind.Ident

abbrev pub literal : Bytes → ℕ → ℕ → Tree
literal = leaf kind.Literal

-- a method that a rewriting selects: where its operator stands, and what the selection spans
abbrev pub method : Bytes → Span → Span → Tree → Tree
method name label_span whole receiver = added (labelled kind.Select name label_span whole (receiver ∷ []))

-- FunType(A, FunType(B, C))
abbrev pub function_twice : Tree
function_twice = unlabelled kind.FunType (span 0 11)
    (type_named (codes "A") 0 1 ∷ unlabelled kind.FunType (span 5 11) (type_named (codes "B") 5 6 ∷ type_named (codes "C") 10 11 ∷ []) ∷ [])

-- FunType(A, B, C)
abbrev pub function_of_two : Tree
function_of_two = unlabelled kind.FunType (span 0 11) (type_named (codes "A") 1 2 ∷ type_named (codes "B") 4 5 ∷ type_named (codes "C") 10 11 ∷ [])

-- FunType(A, B), whose last token is the parenthesis
abbrev pub result_in_parentheses : Tree
result_in_parentheses = unlabelled kind.FunType (span 0 8) (type_named (codes "A") 0 1 ∷ type_named (codes "B") 6 7 ∷ [])

-- Singleton(Select(Ident))
abbrev pub singleton : Tree
singleton = labelled kind.Singleton (codes "b") (span 2 3) (span 0 8)
    (labelled kind.Select (codes "b") (span 2 3) (span 0 3) (ident (codes "a") 0 1 ∷ []) ∷ [])

-- ::(a, ::(b, N))
abbrev pub list_pattern : Tree
list_pattern = labelled kind.CtorPat (codes "::") (span 2 4) (span 0 11)
    (leaf kind.Bind (codes "a") 0 1
    ∷ labelled kind.CtorPat (codes "::") (span 7 9) (span 5 11) (leaf kind.Bind (codes "b") 5 6 ∷ leaf kind.StablePat (codes "N") 10 11 ∷ [])
    ∷ [])

-- a.+(b.*(c))
abbrev pub sum_of_product : Tree
sum_of_product = unlabelled kind.Apply (span 0 9)
    (method (codes "+") (span 2 3) (span 0 3) (ident (codes "a") 0 1)
    ∷ unlabelled kind.Apply (span 4 9) (method (codes "*") (span 6 7) (span 4 7) (ident (codes "b") 4 5) ∷ ident (codes "c") 8 9 ∷ [])
    ∷ [])

-- a.-(b).-(c)
abbrev pub differences : Tree
differences = unlabelled kind.Apply (span 0 9)
    (method (codes "-") (span 6 7) (span 0 7)
    (unlabelled kind.Apply (span 0 5) (method (codes "-") (span 2 3) (span 0 3) (ident (codes "a") 0 1) ∷ ident (codes "b") 4 5 ∷ []))
    ∷ ident (codes "c") 8 9 ∷ [])

-- xs.::(1)
abbrev pub right_associative : Tree
right_associative = unlabelled kind.Apply (span 0 7)
    (method (codes "::") (span 2 4) (span 2 7) (ident (codes "xs") 5 7) ∷ literal (codes "1") 0 1 ∷ [])

-- OpAssign(a, b.+(c))
abbrev pub assigned_sum : Tree
assigned_sum = labelled kind.OpAssign (codes "+=") (span 2 4) (span 0 10)
    (ident (codes "a") 0 1
    ∷ unlabelled kind.Apply (span 5 10) (method (codes "+") (span 7 8) (span 5 8) (ident (codes "b") 5 6) ∷ ident (codes "c") 9 10 ∷ [])
    ∷ [])

-- x.unary_-
abbrev pub negated : Tree
negated = labelled kind.Select (codes "unary_-") (span 0 1) (span 0 2) (ident (codes "x") 1 2 ∷ [])

abbrev pub placeholder : ℕ → ℕ → Tree
placeholder start end = with_detail Placeholder (ident (codes "_") start end)

abbrev pub placeholder_param : ℕ → ℕ → Tree
placeholder_param start end = added (with_detail (lambda_param false) (leaf kind.Param (codes "_") start end))

-- x => f(x)
abbrev pub placeholder_argument : Tree
placeholder_argument = unlabelled kind.Function (span 0 4)
    (placeholder_param 2 3 ∷ unlabelled kind.Apply (span 0 4) (ident (codes "f") 0 1 ∷ placeholder 2 3 ∷ []) ∷ [])

-- a.update(1, 2), whose name has no token
abbrev pub update : Tree
update = unlabelled kind.Apply (span 0 8)
    (method (codes "update") (span 0 1) (span 0 1) (ident (codes "a") 0 1) ∷ literal (codes "1") 2 3 ∷ literal (codes "2") 7 8 ∷ [])
