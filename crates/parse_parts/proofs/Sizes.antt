-- A type has no more trees than tokens, so the numbers of its trees fit.
use Rattle.std.proofs.Common.{◌≡◌, ℕ, ◌+◌, ◌≤◌, List, [], ◌∷◌, ◌++◌, length, map, codes, ap, sym, ◌∙◌, subst, arith, length-append}
use Rattle.std.specs.List.{flat_map}
use Rattle.pc_terms.specs.declared.problems.Span.{Span}
use Rattle.pc_terms.specs.declared.tree_kinds.TreeKind.{TreeKind}
use Rattle.pc_terms.specs.declared.tree_kinds.TreeKind.TheVariants as kind
use Rattle.positioned_trees.specs.Trees.{all_trees, numbered}
use Rattle.positioned_trees.specs.declared.trees.Tree.{Tree}
use Rattle.positioned_trees.specs.declared.trees.Tree.TheFolds.{ind-Tree}
use Rattle.positioned_trees.specs.declared.trees.Tree.TheViews.{out-Tree, roll-Tree, out-roll-Tree}
use Rattle.positioned_trees.proofs.Numbers.{kids_numbered, numbered-out}
use Rattle.positioned_trees.proofs.Walks.{all_trees-out}
use Rattle.scan_tokens.specs.Words.{Bytes}
use Rattle.source_grammar.specs.Lexemes.{Id, Step, QualId, steps_tokens, qual_id_tokens, close_round, arrow_token, comma, dot, word_at, open_square, close_square}
use Rattle.source_grammar.specs.Spans.{labelled, from_to}
use Rattle.source_grammar.specs.Types.{WrittenType, SimpleType, NamedType, TypeList, FunOfNamed, FunOfNone, FunOfTypes, Simple, Named, InParentheses, Pair, Triple, OfPath, Applied, Singleton, LastType, MoreTypes, type_tokens, simple_tokens, named_tokens, type_list_tokens, type_tree, simple_tree, named_tree, type_list_trees, path_tree, path_type, path_type_tree, prefix_kids, before_last, steps_tree, select_tree, ident_tree}

abbrev pub size : Tree → ℕ
size tree = length (all_trees tree)

abbrev pub sizes : List Tree → ℕ
sizes trees = length (flat_map all_trees trees)

pub sizes-cons : (tree : Tree) (trees : List Tree) → sizes (tree ∷ trees) ≡ size tree + sizes trees
sizes-cons tree trees = length-append (all_trees tree) (flat_map all_trees trees)

pub sizes-push : (trees : List Tree) (tree : Tree) → sizes (trees ++ tree ∷ []) ≡ sizes trees + size tree
sizes-push [] tree = omega (arith, sizes-cons tree [])
sizes-push (t ∷ trees) tree = omega (arith, sizes-cons t (trees ++ tree ∷ []), sizes-cons t trees, sizes-push trees tree)

size-out : (tree : Tree) → size tree ≡ sizes (out-Tree tree).kids + 1
size-out tree = ap length (all_trees-out tree) ∙ (omega arith)

pub size-labelled : (k : TreeKind) (label : Bytes) (label_span span : Span) (kids : List Tree) → size (labelled k label label_span span kids) ≡ sizes kids + 1
size-labelled k label label_span span kids = size-out (labelled k label label_span span kids) ∙ ap (λ x. sizes x.kids + 1) (out-roll-Tree _)

-- ---- numbers

abbrev pub IsCounted : Tree → Type 0
IsCounted tree = (start : ℕ) → (numbered tree start).next ≡ start + size tree

abbrev AreCounted : List Tree → Type 0
AreCounted kids = (start : ℕ) → (kids_numbered kids start).next ≡ start + sizes kids

kids-counted : (kids : List ((tree : Tree) × IsCounted tree)) → AreCounted (map (λ k. k.0) kids)
kids-counted [] start = omega arith
kids-counted (kid ∷ kids) start =
    kids-counted kids (numbered kid.0 start).next ∙ ap (λ n. n + sizes (map (λ k. k.0) kids)) (kid.1 start)
    ∙ (omega (arith, sizes-cons kid.0 (map (λ k. k.0) kids)))

pub counted : (tree : Tree) → IsCounted tree
counted = ind-Tree IsCounted (λ x y is start.
    let tree : Tree = roll-Tree x in
    let at_layer : AreCounted x.kids = subst (λ z. AreCounted z.kids) is (kids-counted y.kids) in
    let kids : AreCounted (out-Tree tree).kids = subst (λ z. AreCounted z.kids) (sym (out-roll-Tree x)) at_layer in
    let next : (numbered tree start).next ≡ (kids_numbered (out-Tree tree).kids (start + 1)).next = ap (λ n. n.next) (numbered-out tree start) in
    next ∙ kids (start + 1) ∙ (omega (arith, size-out tree)))

-- ---- paths

steps-size : (from : Tree) (steps : List Step) → size (steps_tree from steps) ≤ size from + length (steps_tokens steps)
steps-size from [] = omega arith
steps-size from (step ∷ steps) =
    let one = size-labelled kind.Select step.id.name step.id.place.span (from_to (out-Tree from).span step.id.place.span) (from ∷ []) in
    omega (arith, steps-size (select_tree from step.id) steps, one, sizes-cons from [])

pub before-size : (from : Tree) (steps : List Step) → 1 ≤ size from → sizes (before_last from steps) + 1 ≤ size from + length (steps_tokens steps)
before-size from [] some = omega arith
before-size from (step ∷ []) some = omega (arith, sizes-cons from [])
before-size from (step ∷ next ∷ steps) some =
    let one = size-labelled kind.Select step.id.name step.id.place.span (from_to (out-Tree from).span step.id.place.span) (from ∷ []) in
    let more : 1 ≤ size (select_tree from step.id) = omega (arith, one) in
    omega (arith, before-size (select_tree from step.id) (next ∷ steps) more, one, sizes-cons from [])

pub ident-size : (id : Id) → size (ident_tree id) ≡ 1
ident-size id = (let one = size-labelled kind.Ident id.name id.place.span id.place.span [] in omega arith)

path-size : (path : QualId) → size (path_tree path) ≤ length (qual_id_tokens path)
path-size path = omega (arith, steps-size (ident_tree path.first) path.steps, ident-size path.first)

type-size-of : (path : QualId) (kids : List Tree) → size (path_type path kids) ≤ sizes kids + 1
type-size-of path [] = (let one = size-labelled kind.TypeIdent path.first.name path.first.place.span path.first.place.span [] in omega arith)
type-size-of path (kid ∷ kids) =
    let one : size (path_type path (kid ∷ kids)) ≡ sizes (kid ∷ []) + 1 = size-labelled _ _ _ _ (kid ∷ []) in
    omega (arith, sizes-cons kid [], sizes-cons kid kids)

path-type-size : (path : QualId) → size (path_type_tree path) ≤ length (qual_id_tokens path)
path-type-size path =
    let first = ident-size path.first in
    let kids = before-size (ident_tree path.first) path.steps (omega arith) in
    omega (arith, type-size-of path (prefix_kids path))

-- ---- types

mutual
  pub type-size : (d : WrittenType) → size (type_tree d) ≤ length (type_tokens d)
  type-size (FunOfNamed named arrow result) =
      let one : size (type_tree (FunOfNamed named arrow result)) ≡ sizes (named_tree named ∷ type_tree result ∷ []) + 1 = size-labelled _ _ _ _ (named_tree named ∷ type_tree result ∷ []) in
      omega (arith, named-size named, type-size result, sizes-cons (named_tree named) (type_tree result ∷ []), sizes-cons (type_tree result) [], length-append (named_tokens named) (arrow_token arrow ∷ type_tokens result))
  type-size (FunOfNone opening closing arrow result) =
      let one : size (type_tree (FunOfNone opening closing arrow result)) ≡ sizes (type_tree result ∷ []) + 1 = size-labelled _ _ _ _ (type_tree result ∷ []) in
      omega (arith, type-size result, sizes-cons (type_tree result) [])
  type-size (FunOfTypes opening types closing arrow result) =
      let one : size (type_tree (FunOfTypes opening types closing arrow result)) ≡ sizes (type_list_trees types ++ type_tree result ∷ []) + 1 = size-labelled _ _ _ _ (type_list_trees types ++ type_tree result ∷ []) in
      omega (arith, list-size types, type-size result, sizes-push (type_list_trees types) (type_tree result), length-append (type_list_tokens types) (close_round closing ∷ arrow_token arrow ∷ type_tokens result))
  type-size (Simple simple) = simple-size simple

  pub simple-size : (d : SimpleType) → size (simple_tree d) ≤ length (simple_tokens d)
  simple-size (Named named) = named-size named
  simple-size (InParentheses opening type closing) = omega (arith, type-size type, length-append (type_tokens type) (close_round closing ∷ []))
  simple-size (Pair opening a p b closing) =
      let one : size (simple_tree (Pair opening a p b closing)) ≡ sizes (type_tree a ∷ type_tree b ∷ []) + 1 = size-labelled _ _ _ _ (type_tree a ∷ type_tree b ∷ []) in
      omega (
        arith,
        type-size a,
        type-size b,
        sizes-cons (type_tree a) (type_tree b ∷ []),
        sizes-cons (type_tree b) [],
        length-append (type_tokens a) (comma p ∷ (type_tokens b ++ close_round closing ∷ [])),
        length-append (type_tokens b) (close_round closing ∷ []),
      )
  simple-size (Triple opening a p b q c closing) =
      let one : size (simple_tree (Triple opening a p b q c closing)) ≡ sizes (type_tree a ∷ type_tree b ∷ type_tree c ∷ []) + 1 = size-labelled _ _ _ _ (type_tree a ∷ type_tree b ∷ type_tree c ∷ []) in
      omega (
        arith,
        type-size a,
        type-size b,
        type-size c,
        sizes-cons (type_tree a) (type_tree b ∷ type_tree c ∷ []),
        sizes-cons (type_tree b) (type_tree c ∷ []),
        sizes-cons (type_tree c) [],
        length-append (type_tokens a) (comma p ∷ (type_tokens b ++ comma q ∷ (type_tokens c ++ close_round closing ∷ []))),
        length-append (type_tokens b) (comma q ∷ (type_tokens c ++ close_round closing ∷ [])),
        length-append (type_tokens c) (close_round closing ∷ []),
      )

  named-size : (d : NamedType) → size (named_tree d) ≤ length (named_tokens d)
  named-size (OfPath path) = path-type-size path
  named-size (Applied path opening types closing) =
      let one : size (named_tree (Applied path opening types closing)) ≡ sizes (path_type_tree path ∷ type_list_trees types) + 1 = size-labelled _ _ _ _ (path_type_tree path ∷ type_list_trees types) in
      omega (
        arith,
        path-type-size path,
        list-size types,
        sizes-cons (path_type_tree path) (type_list_trees types),
        length-append (qual_id_tokens path) (open_square opening ∷ (type_list_tokens types ++ close_square closing ∷ [])),
        length-append (type_list_tokens types) (close_square closing ∷ []),
      )
  named-size (Singleton path point word) =
      let one : size (named_tree (Singleton path point word)) ≡ sizes (path_tree path ∷ []) + 1 = size-labelled _ _ _ _ (path_tree path ∷ []) in
      omega (arith, path-size path, sizes-cons (path_tree path) [], length-append (qual_id_tokens path) (dot point ∷ word_at (codes "type") word ∷ []))

  list-size : (d : TypeList) → sizes (type_list_trees d) ≤ length (type_list_tokens d)
  list-size (LastType type) = omega (arith, type-size type, sizes-cons (type_tree type) [])
  list-size (MoreTypes type p types) =
      omega (arith, type-size type, list-size types, sizes-cons (type_tree type) (type_list_trees types), length-append (type_tokens type) (comma p ∷ type_list_tokens types))
