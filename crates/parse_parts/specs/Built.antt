-- Trees as far as they are kept: not where they are higher than the limit.
use Rattle.std.specs.Prelude.{ℕ, ◌+◌, nat_lt, if◌then◌else◌, List, [], ◌∷◌, ◌++◌, Option, Some, None}
use Rattle.pc_terms.specs.declared.problems.Span.{Span}
use Rattle.pc_terms.specs.declared.tree_kinds.TreeKind.{TreeKind}
use Rattle.scan_tokens.specs.Words.{Bytes}
use Rattle.positioned_trees.specs.declared.trees.Tree.{Tree}
use Rattle.source_grammar.specs.Spans.{labelled}
use Rattle.parse_parts.specs.declared.built.Kids.{Kids}
use Rattle.parse_parts.specs.declared.built.Tall.{Tall}

abbrev pub max_height : ℕ
max_height = 400

abbrev pub no_kids : Option Kids
no_kids = Some (record { trees = []; height = 0 })

abbrev pub joined : Option Kids → Option Tall → Option Kids
joined (Some kids) (Some tall) =
    Some (record { trees = kids.trees ++ tall.tree ∷ []; height = if nat_lt kids.height tall.height then tall.height else kids.height })
joined _ _ = None

abbrev pub alone : Option Tall → Option Kids
alone tall = joined no_kids tall

abbrev pub node : TreeKind → Bytes → Span → Span → Option Kids → Option Tall
node tree_kind label label_span span None = None
node tree_kind label label_span span (Some kids) =
    if nat_lt kids.height max_height then Some (record { tree = labelled tree_kind label label_span span kids.trees; height = kids.height + 1 }) else None

abbrev pub last : List Tree → Option Tree
last [] = None
last (t ∷ []) = Some t
last (t ∷ u ∷ ts) = last (u ∷ ts)

abbrev pub tall_of : ℕ → Option Tree → Option Tall
tall_of height None = None
tall_of height (Some tree) = Some (record { tree = tree; height = height })

abbrev pub only : Option Kids → Option Tall
only None = None
only (Some kids) = tall_of kids.height (last kids.trees)
