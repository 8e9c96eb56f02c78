-- Operators that are joined with trees as far as these are kept make what they make with the trees themselves.
use Rattle.std.proofs.Common.{◌≡◌, ℕ, zero, suc, ◌<◌, nat_lt, Bool, true, false, ◌&&◌, if◌then◌else◌, List, [], ◌∷◌, ◌++◌, Option, refl, ap, sym, ◌∙◌, append_assoc, arith}
use Rattle.std.specs.Prelude.{not, ◌||◌, ◌==◌}
use Rattle.std.proofs.lemmas.Bool.Decides.{nat_tests}
use Rattle.pc_terms.specs.declared.tree_kinds.TreeKind.TheVariants as kind
use Rattle.positioned_trees.specs.declared.trees.Tree.{Tree}
use Rattle.source_grammar.specs.Lexemes.{Lexeme, Id, id_token}
use Rattle.source_grammar.specs.Patterns.{Pat3, SPat, LastOperand, MoreOperands, spat_tokens, pat3_operators, join_patterns, pat3_chain, spat_tree}
use Rattle.source_grammar.specs.Precedence as grammar
use Rattle.source_grammar.specs.Precedence.{Chain, precedence, is_right, are_of_one_side, after_left, joined_right, joined_at, joined_from, joined}
use Rattle.source_grammar.specs.Spans.{span_of}
use Rattle.parse_parts.specs.declared.built.Tall.{Tall}
use Rattle.parse_parts.proofs.Kept.{kept, joined-kept, alone-kept, node-kept}
use Rattle.parse_parts.proofs.Shown.{end_of, end-behind}
use Rattle.parse_parts.specs.Built as built
use Rattle.parse_parts.specs.Built.{alone, node}
use Rattle.source_grammar.specs.Spans.{from_to}
use Rattle.parse_patterns.specs.declared.states.Operand.{Operand}
use Rattle.parse_patterns.specs.declared.states.Operation.{Operation}
use Rattle.parse_patterns.specs.Operators.{over, goes_first, fits, same_side}
use Rattle.parse_patterns.specs.Operators as spec
use Rattle.parse_patterns.proofs.Begun.{Begins, begins-append, Some_begins, some-behind, spat-begins}
use Rattle.parse_patterns.proofs.Derived as derived
use Rattle.parse_patterns.proofs.Derived.{settled, operations_tokens}
use Rattle.parse_patterns.proofs.Joined as joining
use Rattle.parse_patterns.proofs.Joined.{Piece, Pieces, put, entry, join_kept, pushed, yard, ids_of, yard-joined, joined-empty}
use Rattle.parse_patterns.proofs.Waiting.{fits-over}

-- ---- trees as far as they are kept

module _ {X : Type 0} (show : X → Option Tall) where
  abbrev pub piece_by : grammar.Operand X → Piece
  piece_by a = record { built = show a.built; span = a.span }

  abbrev pub pieces_by : List (grammar.Operation X) → Pieces
  pieces_by [] = []
  pieces_by (next ∷ rest) = record { operator = next.operator; operand = piece_by next.operand } ∷ pieces_by rest

  abbrev pub chain_by : Chain X → Chain (Option Tall)
  chain_by c = record { first = piece_by c.first; operations = pieces_by c.operations }

abbrev step_of : {A : Type 0} → grammar.Joining A → ℕ → grammar.Operand A → Id → grammar.Operand A → List (grammar.Operation A) → Bool → Bool → Chain A
step_of join n a id b rest other right =
    if other then after_left a id (joined_at join n b rest) else (if right then joined_right join a id (joined_at join n b rest) else joined_at join n (join id a b) rest)

-- where two operands are joined as they are shown
module _ {X : Type 0} (show : X → Option Tall) (over : Operation → Operand → Operand) (join : grammar.Joining X) (joins : (id : Id) (a b : grammar.Operand X) → join_kept over id (piece_by show a) (piece_by show b) ≡ piece_by show (join id a b)) where
  level-kept : (n : ℕ) (a : grammar.Operand X) (ops : List (grammar.Operation X)) → joined_at (join_kept over) n (piece_by show a) (pieces_by show ops) ≡ chain_by show (joined_at join n a ops)
  level-kept n a [] = refl
  level-kept n a (next ∷ rest) =
      go (not (precedence next.operator.name == n)) (is_right next.operator.name) (level-kept n next.operand rest) (level-kept n (join next.operator a next.operand) rest)
    where
      go : (c d : Bool) → joined_at (join_kept over) n (piece_by show next.operand) (pieces_by show rest) ≡ chain_by show (joined_at join n next.operand rest)
          → joined_at (join_kept over) n (piece_by show (join next.operator a next.operand)) (pieces_by show rest) ≡ chain_by show (joined_at join n (join next.operator a next.operand) rest)
          → step_of (join_kept over) n (piece_by show a) next.operator (piece_by show next.operand) (pieces_by show rest) c d ≡ chain_by show (step_of join n a next.operator next.operand rest c d)
      go true d x y = ap (after_left (piece_by show a) next.operator) x
      go false true x y =
          ap (joined_right (join_kept over) (piece_by show a) next.operator) x
          ∙ ap (λ p. record { first = p; operations = pieces_by show (joined_at join n next.operand rest).operations }) (joins next.operator a (joined_at join n next.operand rest).first)
      go false false x y = ap (λ p. joined_at (join_kept over) n p (pieces_by show rest)) (joins next.operator a next.operand) ∙ y

  from-kept : (n : ℕ) (c : Chain X) → joined_from (join_kept over) n (chain_by show c) ≡ chain_by show (joined_from join n c)
  from-kept zero c = level-kept 0 c.first c.operations
  from-kept (suc n) c = ap (joined_from (join_kept over) n) (level-kept (suc n) c.first c.operations) ∙ from-kept n (joined_at join (suc n) c.first c.operations)

  pub joined-chain : (c : Chain X) → joined (join_kept over) (chain_by show c) ≡ piece_by show (joined join c)
  unfolding joined
  joined-chain c = ap (λ x. x.first) (from-kept 10 c)

  -- no operator is left
  pub chain-empty : (c : Chain X) → (joined_from join 10 c).operations ≡ []
  chain-empty c = none (joined_from join 10 c).operations (sym (ap (λ x. x.operations) (from-kept 10 c)) ∙ joined-empty over (chain_by show c)) where
    none : (ops : List (grammar.Operation X)) → pieces_by show ops ≡ [] → ops ≡ []
    none [] e = refl
    none (op ∷ ops) e = cc

-- ---- operators that wait, of patterns

abbrev pub kept_piece : grammar.Operand Tree → Piece
kept_piece a = piece_by kept a

abbrev kept_pieces : List (grammar.Operation Tree) → Pieces
kept_pieces ops = pieces_by kept ops

join-kept : (id : Id) (a b : grammar.Operand Tree) → join_kept over id (kept_piece a) (kept_piece b) ≡ kept_piece (join_patterns id a b)
join-kept id a b = ap (λ t. record { built = t; span = from_to a.span b.span })
    (ap (λ k. node kind.CtorPat id.name id.place.span (from_to a.span b.span) (built.joined k (kept b.built))) (alone-kept a.built)
    ∙ ap (node kind.CtorPat id.name id.place.span (from_to a.span b.span)) (joined-kept (a.built ∷ []) b.built)
    ∙ node-kept kind.CtorPat id.name id.place.span (from_to a.span b.span) (a.built ∷ b.built ∷ []))

abbrev pub piece_of : SPat → Operand
piece_of d = record { tall = kept (spat_tree d); span = span_of (spat_tokens d) }

abbrev pub operations_shown : List derived.Operation → List Operation
operations_shown [] = []
operations_shown (o ∷ os) = pushed over (operations_shown os) (piece_of o.left) o.operator

yard-settled : (os : List derived.Operation) (d : Pat3)
    → yard over (operations_shown os) (put (kept_piece (pat3_chain d).first)) (kept_pieces (pat3_chain d).operations)
    ≡ yard over [] (put (kept_piece (pat3_chain (settled os d)).first)) (kept_pieces (pat3_chain (settled os d)).operations)
yard-settled [] d = refl
yard-settled (o ∷ os) d = yard-settled os (MoreOperands o.left o.operator d)

chain-ids : (d : Pat3) → ids_of (kept_pieces (pat3_chain d).operations) ≡ pat3_operators d
chain-ids (LastOperand x) = refl
chain-ids (MoreOperands x id d) = ap (λ ids. id ∷ ids) (chain-ids d)

pub settled-shown : (os : List derived.Operation) (x : SPat) → are_of_one_side (pat3_operators (settled os (LastOperand x))) ≡ true
    → spec.settled (operations_shown os) (piece_of x) ≡ put (kept_piece (joined join_patterns (pat3_chain (settled os (LastOperand x)))))
settled-shown os x s =
    let d : Pat3 = settled os (LastOperand x) in
    yard-settled os (LastOperand x)
    ∙ yard-joined over (chain_by kept (pat3_chain d)) (ap are_of_one_side (chain-ids d) ∙ s)
    ∙ ap put (joined-chain kept over join_patterns join-kept (pat3_chain d))

-- ---- spans

pub first-start : (x : Lexeme) (xs : List Lexeme) → Begins x xs → (span_of xs).start ≡ x.place.span.start
first-start x xs b = ap (λ ys. (span_of ys).start) b.is

pub start-append : (xs ys : List Lexeme) → Some_begins xs → (span_of (xs ++ ys)).start ≡ (span_of xs).start
start-append xs ys b = first-start b.first (xs ++ ys) (begins-append b.first xs ys b.begins) ∙ sym (first-start b.first xs b.begins)

pub end-append : (xs ys : List Lexeme) → Some_begins ys → end_of (xs ++ ys) ≡ end_of ys
end-append xs ys b = ap (λ zs. end_of (xs ++ zs)) b.begins.is ∙ end-behind 0 xs b.first b.begins.rest ∙ sym (ap end_of b.begins.is)

pub span-end : (xs : List Lexeme) → (span_of xs).end ≡ end_of xs
span-end [] = refl
span-end (x ∷ xs) = refl

pub span-is : (xs : List Lexeme) (start end : ℕ) → (span_of xs).start ≡ start → end_of xs ≡ end → span_of xs ≡ record { start = start; end = end }
span-is xs start end s e = ap (λ n. record { start = n; end = (span_of xs).end }) s ∙ ap (λ n. record { start = start; end = n }) (span-end xs ∙ e)

module _ (over : Operation → Operand → Operand) where
  folded-settled : (ops : List Operation) (p : ℕ) (a : Operand) → joining.settled over (joining.folded over ops p a).operations (joining.folded over ops p a).last ≡ joining.settled over ops a
  folded-settled [] p a = refl
  folded-settled (op ∷ ops) p a = go (goes_first op p) (folded-settled ops p (over op a)) where
    go : (b : Bool) → joining.settled over (joining.folded over ops p (over op a)).operations (joining.folded over ops p (over op a)).last ≡ joining.settled over ops (over op a)
        → (let f = if b then joining.folded over ops p (over op a) else (record { operations = op ∷ ops; last = a }) in joining.settled over f.operations f.last) ≡ joining.settled over ops (over op a)
    go true e = e
    go false e = refl

-- where an operation stands from its left operand on, and up to the end of the one behind it
module _ (over : Operation → Operand → Operand) (spans : (op : Operation) (a : Operand) → ((over op a).span.start ≡ op.left.span.start) × ((over op a).span.end ≡ a.span.end)) where
  settled-start : (ops : List Operation) (a b : Operand) → a.span.start ≡ b.span.start → (joining.settled over ops a).span.start ≡ (joining.settled over ops b).span.start
  settled-start [] a b e = e
  settled-start (op ∷ ops) a b e = settled-start ops (over op a) (over op b) ((spans op a).0 ∙ sym (spans op b).0)

  pub settled-end : (ops : List Operation) (a : Operand) → (joining.settled over ops a).span.end ≡ a.span.end
  settled-end [] a = refl
  settled-end (op ∷ ops) a = settled-end ops (over op a) ∙ (spans op a).1

  pub pushed-start : (ops : List Operation) (a b : Operand) (id : Id) → (joining.settled over (pushed over ops a id) b).span.start ≡ (joining.settled over ops a).span.start
  pushed-start ops a b id =
      let f = joining.folded over ops (precedence id.name) a in
      settled-start f.operations (over (entry f.last id) b) f.last (spans (entry f.last id) b).0 ∙ ap (λ o. o.span.start) (folded-settled over ops (precedence id.name) a)

over-spans : (op : Operation) (a : Operand) → ((over op a).span.start ≡ op.left.span.start) × ((over op a).span.end ≡ a.span.end)
over-spans op a = (refl, refl)

start-there : (os : List derived.Operation) (x : SPat) → (spec.settled (operations_shown os) (piece_of x)).span.start ≡ (span_of (operations_tokens os ++ spat_tokens x)).start
start-there [] x = refl
start-there (o ∷ os) x =
    pushed-start over over-spans (operations_shown os) (piece_of o.left) (piece_of x) o.operator
    ∙ start-there os o.left
    ∙ sym (start-append (operations_tokens os ++ spat_tokens o.left) (id_token o.operator ∷ spat_tokens x) (some-behind (operations_tokens os) _ (spat-begins o.left)))
    ∙ ap (λ ys. (span_of ys).start) (go (operations_tokens os) (spat_tokens o.left) (spat_tokens x))
  where
    go : (a b c : List Lexeme) → (a ++ b) ++ id_token o.operator ∷ c ≡ (a ++ (b ++ id_token o.operator ∷ [])) ++ c
    go a b c = simp append_assoc

pub settled-span : (os : List derived.Operation) (x : SPat) → (spec.settled (operations_shown os) (piece_of x)).span ≡ span_of (operations_tokens os ++ spat_tokens x)
settled-span os x =
    let a = spec.settled (operations_shown os) (piece_of x) in
    ap (λ n. record { start = n; end = a.span.end }) (start-there os x)
    ∙ ap (λ n. record { start = (span_of (operations_tokens os ++ spat_tokens x)).start; end = n })
    (settled-end over over-spans (operations_shown os) (piece_of x) ∙ span-end (spat_tokens x) ∙ sym (end-append (operations_tokens os) (spat_tokens x) (spat-begins x)) ∙ sym (span-end (operations_tokens os ++ spat_tokens x)))

-- ---- what fits

lt-is : (a b : ℕ) → nat_lt a b ≡ true → a < b
lt-is a b e = grind (arith, nat_tests, e)

-- what goes before a level binds as close at least
goes-above : (op : Operation) (p level : ℕ) → goes_first op p ≡ true → level < p → level < op.level
goes-above op p level e l = go (nat_lt p op.level) (op.level == p) refl refl e where
  go : (a b : Bool) → nat_lt p op.level ≡ a → (op.level == p) ≡ b → (a || (b && not op.right)) ≡ true → level < op.level
  go true b f g h = (let k : p < op.level = lt-is p op.level f in omega arith)
  go false true f g h = (let k : op.level ≡ p = grind (arith, nat_tests, g) in omega arith)
  go false false f g h = cc

module _ (over : Operation → Operand → Operand) where
  fits-folded : (ops : List Operation) (p : ℕ) (a : Operand) (level : ℕ) (right : Bool) → level < p → fits (joining.folded over ops p a).operations level right ≡ fits ops level right
  fits-folded [] p a level right l = refl
  fits-folded (op ∷ ops) p a level right l = go (goes_first op p) refl (fits-folded ops p (over op a) level right l) where
    go : (b : Bool) → goes_first op p ≡ b → fits (joining.folded over ops p (over op a)).operations level right ≡ fits ops level right
        → fits (if b then joining.folded over ops p (over op a) else (record { operations = op ∷ ops; last = a })).operations level right ≡ fits (op ∷ ops) level right
    go true e f = f ∙ sym (fits-over op ops level right (goes-above op p level e l))
    go false e f = refl

  -- an operator fits behind another where it binds less and fits before that one, or is on its side
  pub fits-pushed : (ops : List Operation) (a : Operand) (before id : Id)
      → fits (pushed over ops a before) (precedence id.name) (is_right id.name)
      ≡ (if nat_lt (precedence id.name) (precedence before.name) then fits ops (precedence id.name) (is_right id.name)
      else (not (precedence before.name == precedence id.name) || same_side (is_right before.name) (is_right id.name)))
  fits-pushed ops a before id = go (nat_lt (precedence id.name) (precedence before.name)) refl where
    rest : List Operation
    rest = (joining.folded over ops (precedence before.name) a).operations

    here : Bool
    here = not (precedence before.name == precedence id.name) || same_side (is_right before.name) (is_right id.name)

    go : (b : Bool) → nat_lt (precedence id.name) (precedence before.name) ≡ b
        → (if b then fits rest (precedence id.name) (is_right id.name) else here) ≡ (if b then fits ops (precedence id.name) (is_right id.name) else here)
    go true e = fits-folded ops (precedence before.name) a (precedence id.name) (is_right id.name) (lt-is _ _ e)
    go false e = refl

pub fits-shown : (os : List derived.Operation) (id : Id) → fits (operations_shown os) (precedence id.name) (is_right id.name) ≡ derived.fits os id
fits-shown [] id = refl
fits-shown (o ∷ os) id =
    fits-pushed over (operations_shown os) (piece_of o.left) o.operator id
    ∙ ap (λ b. if nat_lt (precedence id.name) (precedence o.operator.name) then b else (not (precedence o.operator.name == precedence id.name) || same_side (is_right o.operator.name) (is_right id.name)))
    (fits-shown os id)
