-- The root of a unit without trees is low.
use Rattle.std.proofs.Common.{◌≡◌, ℕ, ◌≤◌, [], Some, subst, arith}
use Rattle.std.proofs.lemmas.Option.{same_Some}
use Rattle.pc_terms.specs.declared.problems.Span.{Span}
use Rattle.pc_terms.specs.declared.tree_kinds.TreeKind.{TreeKind}
use Rattle.pc_terms.specs.declared.tree_kinds.TreeKind.TheVariants.{Unit}
use Rattle.scan_tokens.specs.Words.{Bytes}
use Rattle.source_grammar.specs.Spans.{labelled}
use Rattle.positioned_trees.proofs.Heights.{height-roll}
use Rattle.positioned_trees.specs.Located.{max_height}
use Rattle.positioned_trees.specs.Trees.{height}
use Rattle.parse_parts.specs.Built.{no_kids}
use Rattle.parse_parts.specs.declared.built.Tall.{Tall}
use Rattle.tree_parser.specs.Read.{root_over}

leaf_low : (k : TreeKind) (label : Bytes) (a b : Span) → height (labelled k label a b []) ≤ max_height
leaf_low k label a b =
    let one : height (labelled k label a b []) ≡ 1 = height-roll _ in omega (arith, one)

pub root_low : (size : ℕ) (tall : Tall) → root_over size no_kids ≡ Some tall → height tall.tree ≤ max_height
root_low size tall is = subst (λ (t : Tall). height t.tree ≤ max_height) (same_Some _ tall is) (leaf_low Unit [] (record { start = 0; end = size }) (record { start = 0; end = size }))
