-- `new` and the type behind it, which ends or goes on with a `.` that no name follows.
use Rattle.std.proofs.Common.{◌≡◌, ℕ, List, [], ◌∷◌, ◌++◌, map, Option, Some, None, refl, ap, sym, ◌∙◌, append_assoc, append-nil}
use Rattle.pc_terms.specs.declared.problems.Span.{Span}
use Rattle.pc_terms.specs.declared.tree_kinds.TreeKind.TheVariants as kind
use Rattle.positioned_trees.specs.declared.trees.Tree.{Tree}
use Rattle.source_grammar.specs.Expressions.{Prim, NewOf, SelectHole}
use Rattle.source_grammar.specs.ExpressionTokens.{prim_tokens}
use Rattle.source_grammar.specs.ExpressionTrees.{hole_span, prim_built}
use Rattle.source_grammar.specs.Lexemes.{Place, dot, qual_id_tokens}
use Rattle.source_grammar.specs.Spans.{end_behind, span_of, labelled, unlabelled}
use Rattle.source_grammar.specs.Types.{WrittenType, SimpleType, Simple, Named, OfPath, type_tokens, simple_tokens, type_tree}
use Rattle.parse_parts.specs.Built.{alone, node}
use Rattle.parse_parts.specs.Steps as type_spec
use Rattle.parse_parts.proofs.Derived as types
use Rattle.parse_parts.proofs.Derived.{heads_tokens}
use Rattle.parse_parts.proofs.Kept.{kept, kept_all, alone-kept, node-kept}
use Rattle.parse_parts.proofs.Shown as type_shown
use Rattle.parse_parts.proofs.Shown.{end_of, end-behind, tail-ends, type-shown}
use Rattle.parse_parts.proofs.Sound.{tokens_in, settled-tokens, simple-tokens}
use Rattle.parse_patterns.proofs.Shown.{simple-begins}
use Rattle.tree_lower.specs.Keeping.{places_shown}
use Rattle.tree_lower.specs.Lowering as lowering
use Rattle.tree_lower.proofs.KeptTrees.{unlabelled-kept, leaf-kept, pair-kept}
use Rattle.expr_tails.specs.declared.states.NewOf.{NewOf as WrittenNew}
use Rattle.expr_tails.specs.Tails.{from_start, new_at, new_with_type, select_hole}
use Rattle.expr_tails.specs.Types.{tail_before_dot}
use Rattle.expr_laws.proofs.Beginning.{prim-begins, span-behind, end-last}
use Rattle.expr_laws.proofs.Derived as derived
use Rattle.expr_laws.proofs.Shown.{prim_piece, free_in}

abbrev pub new_shown : Place → WrittenType → WrittenNew
new_shown word type = record { span = span_of (prim_tokens (NewOf word type)); kids = kept_all (type_tree type ∷ []) }

-- where a type ends
pub type-ends : (end : ℕ) (hs : List types.Head) (s : types.Tail) (simple : SimpleType) → types.simple_of s ≡ Some simple
    → end_behind end (type_tokens (types.settled hs (Simple simple))) ≡ type_spec.tail_end (type_shown.tail_shown s)
type-ends end hs s simple e =
    ap (end_behind end) (settled-tokens hs (Simple simple)) ∙ end-last end (heads_tokens hs) (simple_tokens simple) (simple-begins simple)
    ∙ ap end_of (simple-tokens s simple e) ∙ tail-ends s simple e

new-there : (word : Place) (hs : List types.Head) (s : types.Tail) (simple : SimpleType) → types.simple_of s ≡ Some simple
    → record {
      span = from_start word.span.start (type_spec.tail_end (type_shown.tail_shown s));
      kids = alone (type_spec.type_at (map type_shown.head_shown hs) (type_shown.tail_shown s));
    }
    ≡ new_shown word (types.settled hs (Simple simple))
new-there word hs s simple e =
    let type : WrittenType = types.settled hs (Simple simple) in
    ap (λ n. record { span = from_start word.span.start n; kids = alone (type_spec.type_at (map type_shown.head_shown hs) (type_shown.tail_shown s)) })
    (sym (type-ends word.span.end hs s simple e))
    ∙ ap (λ k. record { span = span_of (prim_tokens (NewOf word type)); kids = k }) (ap alone (type-shown hs s simple e) ∙ alone-kept (type_tree type))

undotted : (s : types.Tail) (simple : SimpleType) → types.simple_of s ≡ Some simple → tail_before_dot (type_shown.tail_shown s) ≡ type_shown.tail_shown s
undotted (types.AtDot path d) simple e = cc
undotted _ simple e = refl

-- a type that is whole
pub new-type-shown : (word : Place) (t : types.State) (type : WrittenType) → derived.type_of t ≡ Some type
    → new_with_type word.span.start (type_shown.shown t) ≡ new_shown word type
new-type-shown word t type e = go t.frames (types.simple_of t.tail) refl e where
  go : (fs : List types.Frame) (o : Option SimpleType) → types.simple_of t.tail ≡ o → derived.type_read fs t.heads o ≡ Some type
      → new_with_type word.span.start (type_shown.shown t) ≡ new_shown word type
  go [] (Some simple) s f =
      let same : types.settled t.heads (Simple simple) ≡ type = cc in
      ap (λ p. record { span = from_start word.span.start (type_spec.tail_end p); kids = alone (type_spec.type_at (map type_shown.head_shown t.heads) p) }) (undotted t.tail simple s)
      ∙ new-there word t.heads t.tail simple s ∙ ap (new_shown word) same
  go [] None s f = cc
  go (frame ∷ fs) o s f = cc

-- a type and the `.` behind it
pub new-dotted-shown : (word : Place) (t : types.State) (d : derived.Dotted) → derived.dotted_of t ≡ Some d
    → new_with_type word.span.start (type_shown.shown t) ≡ new_shown word d.type
new-dotted-shown word t d e = go t.frames t.tail e where
  go : (fs : List types.Frame) (s : types.Tail) → derived.dotted_read fs t.heads s ≡ Some d
      → new_with_type word.span.start (type_shown.shown (record { frames = fs; heads = t.heads; tail = s })) ≡ new_shown word d.type
  go [] (types.AtDot path p) f =
      let same : types.settled t.heads (Simple (Named (OfPath path))) ≡ d.type = ap (λ o. typed_or o d.type) f in
      new-there word t.heads (types.AtPath path) (Named (OfPath path)) refl ∙ ap (new_shown word) same
    where
      typed_or : Option derived.Dotted → WrittenType → WrittenType
      typed_or None other = other
      typed_or (Some found) other = found.type
  go [] _ f = cc
  go (frame ∷ fs) s f = cc

pub dotted-end : (end : ℕ) (t : types.State) (d : derived.Dotted) → derived.dotted_of t ≡ Some d → end_behind end (tokens_in t) ≡ d.point.span.end
dotted-end end t d e = go t.frames t.tail e where
  go : (fs : List types.Frame) (s : types.Tail) → derived.dotted_read fs t.heads s ≡ Some d
      → end_behind end (tokens_in (record { frames = fs; heads = t.heads; tail = s })) ≡ d.point.span.end
  go [] (types.AtDot path p) f =
      ap (end_behind end) (sym (append_assoc (heads_tokens t.heads) (qual_id_tokens path) (dot p ∷ []))) ∙ end-behind end (heads_tokens t.heads ++ qual_id_tokens path) (dot p) []
      ∙ ap (λ o. end_or o p.span.end) f
    where
      end_or : Option derived.Dotted → ℕ → ℕ
      end_or None other = other
      end_or (Some found) other = found.point.span.end
  go [] _ f = cc
  go (frame ∷ fs) s f = cc

pub new-piece : (word : Place) (type : WrittenType) → new_at (new_shown word type) ≡ prim_piece (NewOf word type)
new-piece word type =
    let span = span_of (prim_tokens (NewOf word type)) in
    ap (λ t. record { tall = t; span = span }) (unlabelled-kept kind.New span (type_tree type ∷ []))

-- a Prim and the `.` behind it, which ends there
pub hole-piece : (prim : Prim) (point : Place) → select_hole (prim_piece prim) point.span.end ≡ prim_piece (SelectHole prim point)
hole-piece prim point =
    let at = hole_span point in
    let span = from_start (span_of (prim_tokens prim)).start point.span.end in
    ap (λ t. record { tall = t; span = span })
    (ap (λ h. node kind.Select [] at span (lowering.pair (kept (prim_built prim).tree) h)) (leaf-kept kind.Hole [] at)
    ∙ ap (node kind.Select [] at span) (pair-kept (prim_built prim).tree (unlabelled kind.Hole at []))
    ∙ node-kept kind.Select [] at span ((prim_built prim).tree ∷ unlabelled kind.Hole at [] ∷ []))
    ∙ ap (λ s. record { tall = kept (labelled_over s); span = s }) (sym (span-behind (prim_tokens prim) (dot point) (prim-begins prim)))
  where
    labelled_over : Span → Tree
    labelled_over s = labelled kind.Select [] (hole_span point) s ((prim_built prim).tree ∷ unlabelled kind.Hole (hole_span point) [] ∷ [])

pub hole-free : (prim : Prim) (point : Place) → free_in (prim_built (SelectHole prim point)) ≡ free_in (prim_built prim)
hole-free prim point = ap places_shown (append-nil (prim_built prim).free)
