-- Operands and operators as the reader joins them are what the grammar makes of them.
use Rattle.std.proofs.Common.{◌≡◌, ℕ, zero, suc, nat_lt, Bool, true, false, ◌||◌, if◌then◌else◌, List, [], ◌∷◌, ◌++◌, Option, refl, ap, sym, ◌∙◌, append_assoc, append-nil}
use Rattle.std.specs.Prelude.{not, ◌==◌}
use Rattle.source_grammar.specs.Expressions.{Infix, LastPrefix, MorePrefixes, Prefix, Unsigned, Signed}
use Rattle.source_grammar.specs.ExpressionRules.{infix_operators}
use Rattle.source_grammar.specs.ExpressionTokens.{sign_token, infix_tokens, prefix_tokens}
use Rattle.source_grammar.specs.ExpressionTrees.{join_built, joined_built, infix_chain, prefix_built}
use Rattle.source_grammar.specs.Lexemes.{Place, Lexeme, Id, id_token}
use Rattle.source_grammar.specs.Placeholders.{Built}
use Rattle.source_grammar.specs.Precedence as grammar
use Rattle.source_grammar.specs.Precedence.{Chain, precedence, is_right, are_of_one_side, after_left, joined_right, joined_at, joined_from, joined}
use Rattle.source_grammar.specs.Spans.{span_of}
use Rattle.parse_parts.specs.declared.built.Tall.{Tall}
use Rattle.parse_parts.proofs.Kept.{kept}
use Rattle.parse_patterns.specs.declared.states.Operand.{Operand}
use Rattle.parse_patterns.specs.declared.states.Operation.{Operation}
use Rattle.parse_patterns.specs.Operators.{same_side}
use Rattle.parse_patterns.proofs.Begun.{Some_begins, some-behind}
use Rattle.parse_patterns.proofs.Chains.{piece_by, pieces_by, chain_by, joined-chain, chain-empty, start-append, end-append, span-end, settled-end, pushed-start, fits-pushed}
use Rattle.parse_patterns.proofs.Joined.{put, join_kept, yard, ids_of, yard-joined}
use Rattle.tree_lower.proofs.KeptOperations.{operation-kept}
use Rattle.expr_tails.specs.Operators.{over, fits}
use Rattle.expr_tails.specs.Operators as spec
use Rattle.expr_laws.proofs.Beginning.{prim-begins, places-append}
use Rattle.expr_laws.proofs.Derived as derived
use Rattle.expr_laws.proofs.Derived.{settled}
use Rattle.expr_laws.proofs.Shown.{prefix_piece, infix_piece, operations_shown, free_in, operations_free}
use Rattle.tree_lower.specs.Keeping.{places_shown}

-- ---- trees

abbrev kept_built : Built → Option Tall
kept_built part = kept part.tree

join-shown : (id : Id) (a b : grammar.Operand Built) → join_kept over id (piece_by kept_built a) (piece_by kept_built b) ≡ piece_by kept_built (join_built id a b)
join-shown id a b = ap (λ o. record { built = o.tall; span = o.span }) (operation-kept id a b)

yard-settled : (os : List derived.Operation) (d : Infix)
    → yard over (operations_shown os) (put (piece_by kept_built (infix_chain d).first)) (pieces_by kept_built (infix_chain d).operations)
    ≡ yard over [] (put (piece_by kept_built (infix_chain (settled os d)).first)) (pieces_by kept_built (infix_chain (settled os d)).operations)
yard-settled [] d = refl
yard-settled (o ∷ os) d = yard-settled os (MorePrefixes o.left o.operator d)

chain-ids : (d : Infix) → ids_of (pieces_by kept_built (infix_chain d).operations) ≡ infix_operators d
chain-ids (LastPrefix x) = refl
chain-ids (MorePrefixes x id d) = ap (λ ids. id ∷ ids) (chain-ids d)

settled-joined : (os : List derived.Operation) (x : Prefix) → are_of_one_side (infix_operators (settled os (LastPrefix x))) ≡ true
    → spec.settled (operations_shown os) (prefix_piece x) ≡ put (piece_by kept_built (joined join_built (infix_chain (settled os (LastPrefix x)))))
settled-joined os x s =
    let d : Infix = settled os (LastPrefix x) in
    yard-settled os (LastPrefix x)
    ∙ yard-joined over (chain_by kept_built (infix_chain d)) (ap are_of_one_side (chain-ids d) ∙ s)
    ∙ ap put (joined-chain kept_built over join_built join-shown (infix_chain d))

-- ---- spans

pub prefix-begins : (d : Prefix) → Some_begins (prefix_tokens d)
prefix-begins (Unsigned prim) = prim-begins prim
prefix-begins (Signed sign prim) = record { first = sign_token sign; begins = record { rest = _; is = refl } }

abbrev pub operations_tokens : List derived.Operation → List Lexeme
operations_tokens [] = []
operations_tokens (o ∷ os) = operations_tokens os ++ (prefix_tokens o.left ++ id_token o.operator ∷ [])

pub settled-tokens : (os : List derived.Operation) (d : Infix) → infix_tokens (settled os d) ≡ operations_tokens os ++ infix_tokens d
settled-tokens [] d = refl
settled-tokens (o ∷ os) d =
    settled-tokens os (MorePrefixes o.left o.operator d) ∙ go (operations_tokens os) (prefix_tokens o.left) (infix_tokens d)
  where
    go : (a b c : List Lexeme) → a ++ (b ++ id_token o.operator ∷ c) ≡ (a ++ (b ++ id_token o.operator ∷ [])) ++ c
    go a b c = simp append_assoc

over-spans : (op : Operation) (a : Operand) → ((over op a).span.start ≡ op.left.span.start) × ((over op a).span.end ≡ a.span.end)
over-spans op a = (refl, refl)

start-there : (os : List derived.Operation) (x : Prefix) → (spec.settled (operations_shown os) (prefix_piece x)).span.start ≡ (span_of (operations_tokens os ++ prefix_tokens x)).start
start-there [] x = refl
start-there (o ∷ os) x =
    pushed-start over over-spans (operations_shown os) (prefix_piece o.left) (prefix_piece x) o.operator
    ∙ start-there os o.left
    ∙ sym (start-append (operations_tokens os ++ prefix_tokens o.left) (id_token o.operator ∷ prefix_tokens x) (some-behind (operations_tokens os) _ (prefix-begins o.left)))
    ∙ ap (λ ys. (span_of ys).start) (go (operations_tokens os) (prefix_tokens o.left) (prefix_tokens x))
  where
    go : (a b c : List Lexeme) → (a ++ b) ++ id_token o.operator ∷ c ≡ (a ++ (b ++ id_token o.operator ∷ [])) ++ c
    go a b c = simp append_assoc

settled-span : (os : List derived.Operation) (x : Prefix) → (spec.settled (operations_shown os) (prefix_piece x)).span ≡ span_of (operations_tokens os ++ prefix_tokens x)
settled-span os x =
    let a = spec.settled (operations_shown os) (prefix_piece x) in
    ap (λ n. record { start = n; end = a.span.end }) (start-there os x)
    ∙ ap (λ n. record { start = (span_of (operations_tokens os ++ prefix_tokens x)).start; end = n })
    (settled-end over over-spans (operations_shown os) (prefix_piece x) ∙ span-end (prefix_tokens x) ∙ sym (end-append (operations_tokens os) (prefix_tokens x) (prefix-begins x)) ∙ sym (span-end (operations_tokens os ++ prefix_tokens x)))

-- the operands and operators that wait, with the last operand, as one
pub settled-shown : (os : List derived.Operation) (x : Prefix) → are_of_one_side (infix_operators (settled os (LastPrefix x))) ≡ true
    → spec.settled (operations_shown os) (prefix_piece x) ≡ infix_piece (settled os (LastPrefix x))
settled-shown os x s =
    let a = spec.settled (operations_shown os) (prefix_piece x) in
    let d : Infix = settled os (LastPrefix x) in
    ap (λ t. record { tall = t; span = a.span }) (ap (λ o. o.tall) (settled-joined os x s))
    ∙ ap (λ n. record { tall = kept (joined_built (infix_chain d)).tree; span = n }) (settled-span os x ∙ ap span_of (sym (settled-tokens os (LastPrefix x))))

-- ---- what fits

pub fits-shown : (os : List derived.Operation) (id : Id) → fits (operations_shown os) id.name ≡ derived.fits os id
fits-shown [] id = refl
fits-shown (o ∷ os) id =
    fits-pushed over (operations_shown os) (prefix_piece o.left) o.operator id
    ∙ ap (λ b. if nat_lt (precedence id.name) (precedence o.operator.name) then b else (not (precedence o.operator.name == precedence id.name) || same_side (is_right o.operator.name) (is_right id.name)))
    (fits-shown os id)

-- ---- placeholders

abbrev pub ops_free : List (grammar.Operation Built) → List Place
ops_free [] = []
ops_free (next ∷ rest) = next.operand.built.free ++ ops_free rest

abbrev pub chain_free : Chain Built → List Place
chain_free c = c.first.built.free ++ ops_free c.operations

level-free : (n : ℕ) (a : grammar.Operand Built) (ops : List (grammar.Operation Built)) → chain_free (joined_at join_built n a ops) ≡ a.built.free ++ ops_free ops
level-free n a [] = refl
level-free n a (next ∷ rest) =
    go (not (precedence next.operator.name == n)) (is_right next.operator.name) (level-free n next.operand rest) (level-free n (join_built next.operator a next.operand) rest)
  where
    there : Chain Built
    there = joined_at join_built n next.operand rest

    joins : Chain Built
    joins = joined_at join_built n (join_built next.operator a next.operand) rest

    go : (c d : Bool) → chain_free there ≡ next.operand.built.free ++ ops_free rest
        → chain_free joins ≡ (a.built.free ++ next.operand.built.free) ++ ops_free rest
        → chain_free (if c then after_left a next.operator there else (if d then joined_right join_built a next.operator there else joins))
        ≡ a.built.free ++ (next.operand.built.free ++ ops_free rest)
    go true d x y = ap (λ f. a.built.free ++ f) x
    go false true x y = append_assoc a.built.free there.first.built.free (ops_free there.operations) ∙ ap (λ f. a.built.free ++ f) x
    go false false x y = y ∙ append_assoc a.built.free next.operand.built.free (ops_free rest)

from-free : (n : ℕ) (c : Chain Built) → chain_free (joined_from join_built n c) ≡ chain_free c
from-free zero c = level-free 0 c.first c.operations
from-free (suc n) c = from-free n (joined_at join_built (suc n) c.first c.operations) ∙ level-free (suc n) c.first c.operations

joined-free : (c : Chain Built) → (joined_built c).free ≡ chain_free c
unfolding joined
joined-free c =
    sym (append-nil (joined_from join_built 10 c).first.built.free)
    ∙ ap (λ ops. (joined_from join_built 10 c).first.built.free ++ ops_free ops) (sym (chain-empty kept_built over join_built join-shown c))
    ∙ from-free 10 c

settled-places : (os : List derived.Operation) (d : Infix)
    → places_shown (chain_free (infix_chain (settled os d))) ≡ operations_free os ++ places_shown (chain_free (infix_chain d))
settled-places [] d = refl
settled-places (o ∷ os) d =
    settled-places os (MorePrefixes o.left o.operator d)
    ∙ ap (λ f. operations_free os ++ f) (places-append (prefix_built o.left).free (chain_free (infix_chain d)))
    ∙ sym (append_assoc (operations_free os) (places_shown (prefix_built o.left).free) (places_shown (chain_free (infix_chain d))))

-- what is free in a chain is what is free in its operands, from left to right
pub settled-free : (os : List derived.Operation) (x : Prefix)
    → free_in (joined_built (infix_chain (settled os (LastPrefix x)))) ≡ operations_free os ++ free_in (prefix_built x)
settled-free os x =
    ap places_shown (joined-free (infix_chain (settled os (LastPrefix x)))) ∙ settled-places os (LastPrefix x)
    ∙ ap (λ f. operations_free os ++ places_shown f) (append-nil (prefix_built x).free)
