-- What stands in parentheses, and the tuples of two and three.
use Rattle.std.proofs.Common.{ℕ, ◌≤◌, List, [], ◌∷◌, ◌++◌, arith}
use Rattle.pc_terms.specs.declared.tree_kinds.TreeKind.{TreeKind}
use Rattle.positioned_trees.specs.declared.trees.Tree.{Tree}
use Rattle.source_grammar.specs.Lexemes.{Place, Lexeme, open_round, close_round, comma}
use Rattle.source_grammar.specs.Spans.{from_to, end_behind, unlabelled}
use Rattle.parse_parts.proofs.Sitting.{SitsBetween, wider, sit-append, sit-one, node-sits}
use Rattle.parse_parts.proofs.TokensStand.{StandBetween, front-stands, back-stands}

-- the tree stands wherever these tokens do
abbrev pub SitsWhere : List Lexeme → Tree → Type 0
SitsWhere xs tree = (low high : ℕ) → StandBetween low xs high → SitsBetween low tree high

pub parenthesized-sits : (opening closing : Place) (xs : List Lexeme) (a : Tree) → SitsWhere xs a → SitsWhere (open_round opening ∷ (xs ++ close_round closing ∷ [])) a
parenthesized-sits opening closing xs a sits low high s =
    let mid : ℕ = end_behind opening.span.end xs in
    let front = front-stands opening.span.end high xs (close_round closing ∷ []) s.2 in
    let back = back-stands opening.span.end high xs (close_round closing ∷ []) s.2 in
    wider opening.span.end low mid high a (omega (arith, s.0, s.1)) (omega (arith, back.0, back.1, back.2)) (sits opening.span.end mid front)

pub pair-sits : (k : TreeKind) (opening p closing : Place) (xs ys : List Lexeme) (a b : Tree) → SitsWhere xs a → SitsWhere ys b
    → SitsWhere (open_round opening ∷ (xs ++ comma p ∷ (ys ++ close_round closing ∷ []))) (unlabelled k (from_to opening.span closing.span) (a ∷ b ∷ []))
pair-sits k opening p closing xs ys a b sits_a sits_b low high s =
    let behind_a : List Lexeme = ys ++ close_round closing ∷ [] in
    let mid : ℕ = end_behind opening.span.end xs in
    let front = front-stands opening.span.end high xs (comma p ∷ behind_a) s.2 in
    let back = back-stands opening.span.end high xs (comma p ∷ behind_a) s.2 in
    let mid_b : ℕ = end_behind p.span.end ys in
    let front_b = front-stands p.span.end high ys (close_round closing ∷ []) back.2 in
    let back_b = back-stands p.span.end high ys (close_round closing ∷ []) back.2 in
    wider opening.span.start low closing.span.end high (unlabelled k (from_to opening.span closing.span) (a ∷ b ∷ [])) s.0 back_b.2
    (node-sits k [] (from_to opening.span closing.span) (from_to opening.span closing.span) (a ∷ b ∷ [])
    (sit-append opening.span.start mid closing.span.end (a ∷ []) (b ∷ [])
    (sit-one opening.span.start mid a (wider opening.span.end opening.span.start mid mid a s.1 (omega arith) (sits_a opening.span.end mid front)))
    (sit-one mid closing.span.end b
    (wider p.span.end mid mid_b closing.span.end b (omega (arith, back.0, back.1)) (omega (arith, back_b.0, back_b.1)) (sits_b p.span.end mid_b front_b)))))

pub triple-sits : (k : TreeKind) (opening p q closing : Place) (xs ys zs : List Lexeme) (a b c : Tree) → SitsWhere xs a → SitsWhere ys b → SitsWhere zs c
    → SitsWhere (open_round opening ∷ (xs ++ comma p ∷ (ys ++ comma q ∷ (zs ++ close_round closing ∷ []))))
    (unlabelled k (from_to opening.span closing.span) (a ∷ b ∷ c ∷ []))
triple-sits k opening p q closing xs ys zs a b c sits_a sits_b sits_c low high s =
    let behind_b : List Lexeme = zs ++ close_round closing ∷ [] in
    let behind_a : List Lexeme = ys ++ comma q ∷ behind_b in
    let mid : ℕ = end_behind opening.span.end xs in
    let front = front-stands opening.span.end high xs (comma p ∷ behind_a) s.2 in
    let back = back-stands opening.span.end high xs (comma p ∷ behind_a) s.2 in
    let mid_b : ℕ = end_behind p.span.end ys in
    let front_b = front-stands p.span.end high ys (comma q ∷ behind_b) back.2 in
    let back_b = back-stands p.span.end high ys (comma q ∷ behind_b) back.2 in
    let mid_c : ℕ = end_behind q.span.end zs in
    let front_c = front-stands q.span.end high zs (close_round closing ∷ []) back_b.2 in
    let back_c = back-stands q.span.end high zs (close_round closing ∷ []) back_b.2 in
    wider opening.span.start low closing.span.end high (unlabelled k (from_to opening.span closing.span) (a ∷ b ∷ c ∷ [])) s.0 back_c.2
    (node-sits k [] (from_to opening.span closing.span) (from_to opening.span closing.span) (a ∷ b ∷ c ∷ [])
    (sit-append opening.span.start mid closing.span.end (a ∷ []) (b ∷ c ∷ [])
    (sit-one opening.span.start mid a (wider opening.span.end opening.span.start mid mid a s.1 (omega arith) (sits_a opening.span.end mid front)))
    (sit-append mid mid_b closing.span.end (b ∷ []) (c ∷ [])
    (sit-one mid mid_b b (wider p.span.end mid mid_b mid_b b (omega (arith, back.0, back.1)) (omega arith) (sits_b p.span.end mid_b front_b)))
    (sit-one mid_b closing.span.end c
    (wider q.span.end mid_b mid_c closing.span.end c (omega (arith, back_b.0, back_b.1)) (omega (arith, back_c.0, back_c.1)) (sits_c q.span.end mid_c front_c))))))
