-- The trees of a path stand where its tokens do.
use Rattle.std.proofs.Common.{ℕ, ◌≤◌, List, [], ◌∷◌, arith}
use Rattle.pc_terms.specs.declared.problems.Span.{Span}
use Rattle.pc_terms.specs.declared.tree_kinds.TreeKind.TheVariants as kind
use Rattle.positioned_trees.specs.declared.trees.Tree.{Tree}
use Rattle.positioned_trees.specs.declared.trees.Tree.TheViews.{out-Tree}
use Rattle.source_grammar.specs.Lexemes.{Id, Step, QualId, qual_id_tokens, steps_tokens}
use Rattle.source_grammar.specs.Spans.{from_to}
use Rattle.source_grammar.specs.Types.{ident_tree, select_tree, steps_tree, path_tree, last_of, last_id, before_last, prefix_kids, path_type, path_type_tree, path_span}
use Rattle.parse_parts.proofs.Sitting.{SitsBetween, wider, own, SitBetween, sit-one, node-sits}
use Rattle.parse_parts.proofs.TokensStand.{StandBetween}

pub ident-sits : (id : Id) → id.place.span.start ≤ id.place.span.end → SitsBetween id.place.span.start (ident_tree id) id.place.span.end
ident-sits id order = node-sits kind.Ident id.name id.place.span id.place.span [] order

select-sits : (start mid : ℕ) (from : Tree) (id : Id) → SitsBetween start from mid → mid ≤ id.place.span.start → id.place.span.start ≤ id.place.span.end
    → SitsBetween start (select_tree from id) id.place.span.end
select-sits start mid from id s behind order =
    let span : Span = from_to (out-Tree from).span id.place.span in
    wider (out-Tree from).span.start start id.place.span.end id.place.span.end (select_tree from id) s.begins (omega arith)
    (node-sits kind.Select id.name id.place.span span (from ∷ [])
    (sit-one (out-Tree from).span.start id.place.span.end from
    (wider (out-Tree from).span.start (out-Tree from).span.start (out-Tree from).span.end id.place.span.end from (omega arith) (omega (arith, s.ends, behind, order)) (own start mid from s))))

steps-sits : (start mid high : ℕ) (from : Tree) (steps : List Step) → SitsBetween start from mid → StandBetween mid (steps_tokens steps) high
    → SitsBetween start (steps_tree from steps) high
steps-sits start mid high from [] s t = wider start start mid high from (omega arith) t s
steps-sits start mid high from (step ∷ steps) s t =
    steps-sits start step.id.place.span.end high (select_tree from step.id) steps
    (select-sits start mid from step.id s (omega (arith, t.0, t.1, t.2.0)) t.2.1) t.2.2

-- the path before the last name, and that name
pub record Ends (start : ℕ) (from : Tree) (id : Id) (steps : List Step) (high : ℕ) : Type 0 where
  pub kids : SitBetween start (before_last from steps) (last_of id steps).place.span.end
  pub behind : id.place.span.end ≤ (last_of id steps).place.span.end
  pub within : (last_of id steps).place.span.end ≤ high

pub before-sits : (start high : ℕ) (from : Tree) (id : Id) (steps : List Step) → SitsBetween start from id.place.span.end → start ≤ id.place.span.end
    → StandBetween id.place.span.end (steps_tokens steps) high → Ends start from id steps high
before-sits start high from id [] s order t = record { kids = order; behind = omega arith; within = t }
before-sits start high from id (step ∷ []) s order t =
    record {
      kids = sit-one start step.id.place.span.end from
          (wider start start id.place.span.end step.id.place.span.end from (omega arith) (omega (arith, t.0, t.1, t.2.0, t.2.1)) s);
      behind = omega (arith, t.0, t.1, t.2.0, t.2.1);
      within = t.2.2;
    }
before-sits start high from id (step ∷ next ∷ steps) s order t =
    let rest = before-sits start high (select_tree from step.id) step.id (next ∷ steps)
    (select-sits start id.place.span.end from step.id s (omega (arith, t.0, t.1, t.2.0)) t.2.1) (omega (arith, order, t.0, t.1, t.2.0, t.2.1)) t.2.2 in
    record { kids = rest.kids; behind = omega (arith, rest.behind, t.0, t.1, t.2.0, t.2.1); within = rest.within }

path-kids-sits : (path : QualId) (kids : List Tree) → SitBetween path.first.place.span.start kids (last_id path).place.span.end
    → path.first.place.span.start ≤ path.first.place.span.end → path.first.place.span.end ≤ (last_id path).place.span.end
    → SitsBetween path.first.place.span.start (path_type path kids) (last_id path).place.span.end
path-kids-sits path [] s order behind =
    wider path.first.place.span.start path.first.place.span.start path.first.place.span.end (last_id path).place.span.end (path_type path []) (omega arith) behind
    (node-sits kind.TypeIdent path.first.name path.first.place.span path.first.place.span [] order)
path-kids-sits path (kid ∷ kids) s order behind =
    node-sits kind.TypeSelect (last_id path).name (last_id path).place.span (path_span path) (kid ∷ [])
    (sit-one path.first.place.span.start (last_id path).place.span.end kid s.0)

pub path-type-sits : (path : QualId) (low high : ℕ) → StandBetween low (qual_id_tokens path) high → SitsBetween low (path_type_tree path) high
path-type-sits path low high s =
    let ends = before-sits path.first.place.span.start high (ident_tree path.first) path.first path.steps (ident-sits path.first s.1) s.1 s.2 in
    wider path.first.place.span.start low (last_id path).place.span.end high (path_type_tree path) s.0 ends.within
    (path-kids-sits path (prefix_kids path) ends.kids s.1 ends.behind)

pub path-term-sits : (path : QualId) (low high : ℕ) → StandBetween low (qual_id_tokens path) high → SitsBetween path.first.place.span.start (path_tree path) high
path-term-sits path low high s =
    steps-sits path.first.place.span.start path.first.place.span.end high (ident_tree path.first) path.steps (ident-sits path.first s.1) s.2
