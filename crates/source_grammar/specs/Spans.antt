-- Trees and their spans. A span runs from the first to the last token of the production. The ids are given where the whole tree is there.
use Rattle.std.specs.Prelude.{ℕ, true, false, List, [], ◌∷◌, min, max}
use Rattle.pc_terms.specs.declared.problems.Span.{Span}
use Rattle.pc_terms.specs.declared.tree_kinds.TreeKind.{TreeKind}
use Rattle.positioned_trees.specs.declared.details.Detail.{Detail}
use Rattle.positioned_trees.specs.declared.details.Detail.TheVariants.{Plain}
use Rattle.positioned_trees.specs.declared.trees.Tree.{Tree}
use Rattle.positioned_trees.specs.declared.trees.Tree.TheViews.{out-Tree, roll-Tree}
use Rattle.scan_tokens.specs.Words.{Bytes}
use Rattle.source_grammar.specs.Lexemes.{Lexeme}

abbrev pub from_to : Span → Span → Span
from_to first last = record { start = first.start; end = last.end }

abbrev pub end_behind : ℕ → List Lexeme → ℕ
end_behind end [] = end
end_behind end (x ∷ xs) = end_behind x.place.span.end xs

-- from the first to the last of some tokens
abbrev pub span_of : List Lexeme → Span
span_of [] = record { start = 0; end = 0 }
span_of (x ∷ xs) = record { start = x.place.span.start; end = end_behind x.place.span.end xs }

-- the smallest span that encloses both
abbrev pub enclosing : Span → Span → Span
enclosing a b = record { start = min a.start b.start; end = max a.end b.end }

-- a tree of the text whose label stands at this span
abbrev pub labelled : TreeKind → Bytes → Span → Span → List Tree → Tree
labelled kind label label_span span kids = roll-Tree (record {
  id = 0;
  span = span;
  opaque = true;
  kind = kind;
  label = label;
  label_span = label_span;
  kids = kids;
  detail = Plain;
})

-- a tree of a kind that has no label
abbrev pub unlabelled : TreeKind → Span → List Tree → Tree
unlabelled kind span kids = labelled kind [] span span kids

abbrev pub span_in : Tree → Span
span_in tree = (out-Tree tree).span

abbrev pub with_detail : Detail → Tree → Tree
with_detail detail tree = roll-Tree (record (out-Tree tree) { detail = detail })

-- a tree that a rewriting adds, or a copy: no place in the text is its own
abbrev pub added : Tree → Tree
added tree = roll-Tree (record (out-Tree tree) { opaque = false })
