-- A pattern has no more trees than tokens, so the numbers of its trees fit.
use Rattle.std.proofs.Common.{◌≡◌, ℕ, zero, suc, ◌+◌, ◌≤◌, Bool, true, false, if◌then◌else◌, List, [], ◌∷◌, ◌++◌, length, ◌∙◌, refl, arith, length-append}
use Rattle.std.specs.Prelude.{not, ◌==◌}
use Rattle.positioned_trees.specs.declared.trees.Tree.{Tree}
use Rattle.source_grammar.specs.Lexemes.{QualId, qual_id_tokens, open_round, close_round, comma, bar, id_token}
use Rattle.source_grammar.specs.Patterns.{Pat, Pat1, Pat3, SPat, PatList, LastAlternative, MoreAlternatives, TypedVar, TypedWild, BoundPat, InfixPat, LastOperand, MoreOperands, WildPat, VarPat, LiteralPat, MinusPat, PathPat, CallPatOfNone, CallPat, UnitPat, PatInParentheses, PairPat, TriplePat, LastPat, MorePats, pat_tokens, pat1_tokens, pat3_tokens, spat_tokens, pat_list_tokens, join_patterns, joined_pattern, pat3_chain, pat_tree, alternative_trees, pat1_tree, spat_tree, pat_list_trees}
use Rattle.source_grammar.specs.Precedence.{Operand, Operation, Chain, precedence, is_right, after_left, joined_right, joined_at, joined_from, joined}
use Rattle.source_grammar.specs.Lexemes.{Id}
use Rattle.source_grammar.specs.Types.{simple_tree, prefix_kids, ident_tree}
use Rattle.parse_parts.proofs.Sizes.{size, sizes, sizes-cons, size-labelled, before-size, ident-size, simple-size}

sizes-append : (xs ys : List Tree) → sizes (xs ++ ys) ≡ sizes xs + sizes ys
sizes-append [] ys = omega arith
sizes-append (x ∷ xs) ys = omega (arith, sizes-cons x (xs ++ ys), sizes-cons x xs, sizes-append xs ys)

prefix-size : (path : QualId) → sizes (prefix_kids path) + 1 ≤ length (qual_id_tokens path)
prefix-size path =
    let first = ident-size path.first in
    let kids = before-size (ident_tree path.first) path.steps (omega arith) in
    omega arith

-- ---- operands that are joined

abbrev operations_size : List (Operation Tree) → ℕ
operations_size [] = 0
operations_size (next ∷ rest) = size next.operand.built + 1 + operations_size rest

abbrev chain_size : Chain Tree → ℕ
chain_size c = size c.first.built + operations_size c.operations

join-size : (id : Id) (a b : Operand Tree) → size (join_patterns id a b).built ≡ size a.built + size b.built + 1
join-size id a b =
    let one : size (join_patterns id a b).built ≡ sizes (a.built ∷ b.built ∷ []) + 1 = size-labelled _ _ _ _ (a.built ∷ b.built ∷ []) in
    omega (arith, sizes-cons a.built (b.built ∷ []), sizes-cons b.built [])

level-size : (n : ℕ) (a : Operand Tree) (ops : List (Operation Tree)) → chain_size (joined_at join_patterns n a ops) ≡ size a.built + operations_size ops
level-size n a [] = refl
level-size n a (next ∷ rest) =
    go (not (precedence next.operator.name == n)) (is_right next.operator.name) (level-size n next.operand rest) (level-size n (join_patterns next.operator a next.operand) rest)
  where
    id : Id
    id = next.operator

    later : Chain Tree
    later = joined_at join_patterns n next.operand rest

    go : (c d : Bool) → chain_size later ≡ size next.operand.built + operations_size rest
        → chain_size (joined_at join_patterns n (join_patterns id a next.operand) rest) ≡ size (join_patterns id a next.operand).built + operations_size rest
        → chain_size (if c then after_left a id later else (if d then joined_right join_patterns a id later else joined_at join_patterns n (join_patterns id a next.operand) rest))
        ≡ size a.built + (size next.operand.built + 1 + operations_size rest)
    go true d x y = omega arith
    go false true x y = omega (arith, join-size id a later.first)
    go false false x y = omega (arith, join-size id a next.operand)

from-size : (n : ℕ) (c : Chain Tree) → chain_size (joined_from join_patterns n c) ≡ chain_size c
from-size zero c = level-size 0 c.first c.operations
from-size (suc n) c = from-size n (joined_at join_patterns (suc n) c.first c.operations) ∙ level-size (suc n) c.first c.operations

joined-size : (c : Chain Tree) → size (joined_pattern c) ≤ chain_size c
unfolding joined
joined-size c = (let all = from-size 10 c in omega arith)

-- ---- patterns

mutual
  pub pat-size : (d : Pat) → size (pat_tree d) ≤ length (pat_tokens d)
  pat-size (LastAlternative d) = pat1-size d
  pat-size (MoreAlternatives d p pats) =
      let trees : List Tree = pat1_tree d ∷ alternative_trees pats in
      let one : size (pat_tree (MoreAlternatives d p pats)) ≡ sizes trees + 1 = size-labelled _ _ _ _ trees in
      omega (arith, pat1-size d, alternatives-size pats, sizes-cons (pat1_tree d) (alternative_trees pats), length-append (pat1_tokens d) (bar p ∷ pat_tokens pats))

  alternatives-size : (d : Pat) → sizes (alternative_trees d) ≤ length (pat_tokens d)
  alternatives-size (LastAlternative d) = omega (arith, pat1-size d, sizes-cons (pat1_tree d) [])
  alternatives-size (MoreAlternatives d p pats) =
      omega (arith, pat1-size d, alternatives-size pats, sizes-cons (pat1_tree d) (alternative_trees pats), length-append (pat1_tokens d) (bar p ∷ pat_tokens pats))

  pat1-size : (d : Pat1) → size (pat1_tree d) ≤ length (pat1_tokens d)
  pat1-size (TypedVar id point type) =
      let one : size (pat1_tree (TypedVar id point type)) ≡ sizes (simple_tree type ∷ []) + 1 = size-labelled _ _ _ _ (simple_tree type ∷ []) in
      omega (arith, simple-size type, sizes-cons (simple_tree type) [])
  pat1-size (TypedWild place point type) =
      let one : size (pat1_tree (TypedWild place point type)) ≡ sizes (simple_tree type ∷ []) + 1 = size-labelled _ _ _ _ (simple_tree type ∷ []) in
      omega (arith, simple-size type, sizes-cons (simple_tree type) [])
  pat1-size (BoundPat id sign pat) =
      let one : size (pat1_tree (BoundPat id sign pat)) ≡ sizes (joined_pattern (pat3_chain pat) ∷ []) + 1 = size-labelled _ _ _ _ (joined_pattern (pat3_chain pat) ∷ []) in
      omega (arith, joined-size (pat3_chain pat), chain-size pat, sizes-cons (joined_pattern (pat3_chain pat)) [])
  pat1-size (InfixPat pat) = omega (arith, joined-size (pat3_chain pat), chain-size pat)

  chain-size : (d : Pat3) → chain_size (pat3_chain d) ≤ length (pat3_tokens d)
  chain-size (LastOperand x) = omega (arith, spat-size x)
  chain-size (MoreOperands x id pat) = omega (arith, spat-size x, chain-size pat, length-append (spat_tokens x) (id_token id ∷ pat3_tokens pat))

  spat-size : (d : SPat) → size (spat_tree d) ≤ length (spat_tokens d)
  spat-size (WildPat place) = (let one : size (spat_tree (WildPat place)) ≡ sizes [] + 1 = size-labelled _ _ _ _ [] in omega arith)
  spat-size (VarPat id) = (let one : size (spat_tree (VarPat id)) ≡ sizes [] + 1 = size-labelled _ _ _ _ [] in omega arith)
  spat-size (LiteralPat l) = (let one : size (spat_tree (LiteralPat l)) ≡ sizes [] + 1 = size-labelled _ _ _ _ [] in omega arith)
  spat-size (MinusPat sign n) = (let one : size (spat_tree (MinusPat sign n)) ≡ sizes [] + 1 = size-labelled _ _ _ _ [] in omega arith)
  spat-size (PathPat path) =
      let one : size (spat_tree (PathPat path)) ≡ sizes (prefix_kids path) + 1 = size-labelled _ _ _ _ (prefix_kids path) in omega (arith, prefix-size path)
  spat-size (CallPatOfNone path o c) =
      let one : size (spat_tree (CallPatOfNone path o c)) ≡ sizes (prefix_kids path ++ []) + 1 = size-labelled _ _ _ _ (prefix_kids path ++ []) in
      omega (arith, prefix-size path, sizes-append (prefix_kids path) [], length-append (qual_id_tokens path) (open_round o ∷ close_round c ∷ []))
  spat-size (CallPat path o pats c) =
      let one : size (spat_tree (CallPat path o pats c)) ≡ sizes (prefix_kids path ++ pat_list_trees pats) + 1 = size-labelled _ _ _ _ (prefix_kids path ++ pat_list_trees pats) in
      omega (
        arith,
        prefix-size path,
        list-size pats,
        sizes-append (prefix_kids path) (pat_list_trees pats),
        length-append (qual_id_tokens path) (open_round o ∷ (pat_list_tokens pats ++ close_round c ∷ [])),
        length-append (pat_list_tokens pats) (close_round c ∷ []),
      )
  spat-size (UnitPat o c) = (let one : size (spat_tree (UnitPat o c)) ≡ sizes [] + 1 = size-labelled _ _ _ _ [] in omega arith)
  spat-size (PatInParentheses o pat c) = omega (arith, pat-size pat, length-append (pat_tokens pat) (close_round c ∷ []))
  spat-size (PairPat o a p b c) =
      let one : size (spat_tree (PairPat o a p b c)) ≡ sizes (pat_tree a ∷ pat_tree b ∷ []) + 1 = size-labelled _ _ _ _ (pat_tree a ∷ pat_tree b ∷ []) in
      omega (
        arith,
        pat-size a,
        pat-size b,
        sizes-cons (pat_tree a) (pat_tree b ∷ []),
        sizes-cons (pat_tree b) [],
        length-append (pat_tokens a) (comma p ∷ (pat_tokens b ++ close_round c ∷ [])),
        length-append (pat_tokens b) (close_round c ∷ []),
      )
  spat-size (TriplePat o a p b q d c) =
      let one : size (spat_tree (TriplePat o a p b q d c)) ≡ sizes (pat_tree a ∷ pat_tree b ∷ pat_tree d ∷ []) + 1 = size-labelled _ _ _ _ (pat_tree a ∷ pat_tree b ∷ pat_tree d ∷ []) in
      omega (
        arith,
        pat-size a,
        pat-size b,
        pat-size d,
        sizes-cons (pat_tree a) (pat_tree b ∷ pat_tree d ∷ []),
        sizes-cons (pat_tree b) (pat_tree d ∷ []),
        sizes-cons (pat_tree d) [],
        length-append (pat_tokens a) (comma p ∷ (pat_tokens b ++ comma q ∷ (pat_tokens d ++ close_round c ∷ []))),
        length-append (pat_tokens b) (comma q ∷ (pat_tokens d ++ close_round c ∷ [])),
        length-append (pat_tokens d) (close_round c ∷ []),
      )

  list-size : (d : PatList) → sizes (pat_list_trees d) ≤ length (pat_list_tokens d)
  list-size (LastPat pat) = omega (arith, pat-size pat, sizes-cons (pat_tree pat) [])
  list-size (MorePats pat p pats) =
      omega (arith, pat-size pat, list-size pats, sizes-cons (pat_tree pat) (pat_list_trees pats), length-append (pat_tokens pat) (comma p ∷ pat_list_tokens pats))
