-- The span of a tree that is made of its parts.
use Rattle.std.proofs.Common.{◌≡◌, List, ap}
use Rattle.pc_terms.specs.declared.problems.Span.{Span}
use Rattle.pc_terms.specs.declared.tree_kinds.TreeKind.{TreeKind}
use Rattle.positioned_trees.specs.declared.trees.Tree.{Tree}
use Rattle.positioned_trees.specs.declared.trees.Tree.TheViews.{out-roll-Tree}
use Rattle.scan_tokens.specs.Words.{Bytes}
use Rattle.source_grammar.specs.Spans.{labelled, span_in}

pub span_in-labelled : (kind : TreeKind) (label : Bytes) (label_span span : Span) (kids : List Tree) → span_in (labelled kind label label_span span kids) ≡ span
span_in-labelled tree_kind label label_span span kids = ap (λ layer. layer.span) (out-roll-Tree _)
