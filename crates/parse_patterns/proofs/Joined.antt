-- Operators that are joined as they come make what the grammar makes of them by their precedence.
use Rattle.std.proofs.Common.{◌≡◌, ℕ, zero, suc, ◌<◌, ◌≤◌, nat_lt, Bool, true, false, ◌&&◌, if◌then◌else◌, List, [], ◌∷◌, ◌++◌, ◌⊎◌, inl, inr, Option, refl, ap, sym, ◌∙◌, arith, subst}
use Rattle.std.specs.Prelude.{not, ◌||◌, ◌==◌}
use Rattle.std.proofs.lemmas.Bool.Decides.{nat_tests}
use Rattle.scan_tokens.specs.Words.{Bytes}
use Rattle.source_grammar.specs.Lexemes.{Id}
use Rattle.source_grammar.specs.Precedence as grammar
use Rattle.source_grammar.specs.Precedence.{Chain, Joining, precedence, precedence_of_first, is_right, is_letter, is_assignment, first_character, agrees_with, are_of_one_side, after_left, joined_right, joined_at, joined_from, joined}
use Rattle.parse_parts.specs.declared.built.Tall.{Tall}
use Rattle.parse_patterns.specs.declared.operators.Folded.{Folded}
use Rattle.parse_patterns.specs.declared.states.Operand.{Operand}
use Rattle.parse_patterns.specs.declared.states.Operation.{Operation}
use Rattle.parse_patterns.specs.Operators.{goes_first, waiting}

-- an operand of the grammar, with its tree as far as it is kept
abbrev pub Piece : Type 0
Piece = grammar.Operand (Option Tall)

abbrev pub Pieces : Type 0
Pieces = List (grammar.Operation (Option Tall))

abbrev pub put : Piece → Operand
put piece = record { tall = piece.built; span = piece.span }

abbrev pub ids_of : Pieces → List Id
ids_of [] = []
ids_of (next ∷ rest) = next.operator ∷ ids_of rest

abbrev pub entry : Operand → Id → Operation
entry a id = record { left = a; name = record { text = id.name; span = id.place.span }; level = precedence id.name; right = is_right id.name }

-- ---- tests

lt-true : (a b : ℕ) → a < b → nat_lt a b ≡ true
lt-true a b e = grind (arith, nat_tests, e)

lt-false : (a b : ℕ) → b ≤ a → nat_lt a b ≡ false
lt-false a b e = grind (arith, nat_tests, e)

eq-true : (a b : ℕ) → a ≡ b → (a == b) ≡ true
eq-true a b e = grind (arith, nat_tests, e)

eq-false : (a b : ℕ) → a < b → (a == b) ≡ false
eq-false a b e = grind (arith, nat_tests, e)

eq-is : (a b : ℕ) → (a == b) ≡ true → a ≡ b
eq-is a b e = grind (arith, nat_tests, e)

not-eq : (a n : ℕ) → a ≤ n → (a == n) ≡ false → a < n
not-eq a n h e = grind (arith, nat_tests, e, h)

goes-lower : (op : Operation) (p : ℕ) → p < op.level → goes_first op p ≡ true
goes-lower op p h = ap (λ b. b || (op.level == p && not op.right)) (lt-true p op.level h)

stays-below : (op : Operation) (p : ℕ) → op.level < p → goes_first op p ≡ false
stays-below op p h =
    ap (λ b. b || (op.level == p && not op.right)) (lt-false p op.level (omega arith)) ∙ ap (λ b. b && not op.right) (eq-false op.level p h)

stays-right : (op : Operation) (p : ℕ) → op.level ≡ p → op.right ≡ true → goes_first op p ≡ false
stays-right op p h r =
    ap (λ b. b || (op.level == p && not op.right)) (lt-false p op.level (omega arith)) ∙ ap (λ b. b && not op.right) (eq-true op.level p h) ∙ ap not r

goes-left : (op : Operation) (p : ℕ) → p ≤ op.level → op.right ≡ false → goes_first op p ≡ true
goes-left op p h r = go (nat_lt p op.level) refl where
  go : (b : Bool) → nat_lt p op.level ≡ b → (nat_lt p op.level || (op.level == p && not op.right)) ≡ true
  go true e = ap (λ b. b || (op.level == p && not op.right)) e
  go false e =
      let same : op.level ≡ p = grind (arith, nat_tests, e, h) in
      ap (λ b. b || (op.level == p && not op.right)) e ∙ ap (λ b. b && not op.right) (eq-true op.level p same) ∙ ap not r

-- ---- what waits

abbrev AllBelow : ℕ → List Operation → Type 0
AllBelow n [] = Unit {0}
AllBelow n (op ∷ ops) = (op.level < n) × AllBelow n ops

abbrev AllRight : ℕ → List Operation → Type 0
AllRight n [] = Unit {0}
AllRight n (op ∷ ops) = (op.level ≡ n) × (op.right ≡ true) × AllRight n ops

abbrev NotAbove : ℕ → Pieces → Type 0
NotAbove n [] = Unit {0}
NotAbove n (next ∷ rest) = (precedence next.operator.name ≤ n) × NotAbove n rest

-- where right associative ones wait, those behind them up to one that binds less are so too
abbrev RightBehind : ℕ → List Operation → List Id → Type 0
RightBehind n [] ids = Unit {0}
RightBehind n (op ∷ rs) ids = (o : Id) × (precedence o.name ≡ n) × (is_right o.name ≡ true) × (agrees_with o ids ≡ true)

both : (x y : Bool) → (x && y) ≡ true → (x ≡ true) × (y ≡ true)
both true true e = (refl, refl)
both true false e = cc
both false y e = cc

-- one of its precedence behind a right associative one is so
next-right : (o id : Id) (ids : List Id) → precedence id.name ≡ precedence o.name → is_right o.name ≡ true → agrees_with o (id ∷ ids) ≡ true → (is_right id.name ≡ true) × (agrees_with o ids ≡ true)
next-right o id ids p r e =
    let step : ((not true || grammar.same_side o id) && agrees_with o ids) ≡ true =
    sym (ap (λ b. b || ((not (precedence id.name == precedence o.name) || grammar.same_side o id) && agrees_with o ids)) (lt-false (precedence id.name) (precedence o.name) (omega (arith, p)))
    ∙ ap (λ b. (not b || grammar.same_side o id) && agrees_with o ids) (eq-true (precedence id.name) (precedence o.name) p)) ∙ e in
    let k = both (grammar.same_side o id) (agrees_with o ids) step in
    (sym (ap (λ b. if b then is_right id.name else not (is_right id.name)) r) ∙ k.0, k.1)

behind-next : (n : ℕ) (rs : List Operation) (id : Id) (ids : List Id) → precedence id.name ≡ n → RightBehind n rs (id ∷ ids) → (rs ≡ []) ⊎ (is_right id.name ≡ true)
behind-next n [] id ids p h = inl refl
behind-next n (op ∷ rs) id ids p h = inr (next-right h.0 id ids (p ∙ sym h.1) h.2 h.3).0

abbrev Lower : ℕ → Pieces → Type 0
Lower n [] = Unit {0}
Lower n (next ∷ rest) = (precedence next.operator.name < n) × Lower n rest

lower-next : (n : ℕ) (pieces : Pieces) → Lower (suc n) pieces → NotAbove n pieces
lower-next n [] h = tt
lower-next n (next ∷ rest) h = ((let x = h.0 in omega arith), lower-next n rest h.1)

pick-le : (c : Bool) (x y m : ℕ) → x ≤ m → y ≤ m → (if c then x else y) ≤ m
pick-le true x y m h k = h
pick-le false x y m h k = k

first-le : (c : ℕ) → precedence_of_first c ≤ 10
first-le c =
    pick-le _ 1 _ 10 (omega arith) (pick-le _ 2 _ 10 (omega arith) (pick-le _ 3 _ 10 (omega arith) (pick-le _ 4 _ 10 (omega arith) (pick-le _ 5 _ 10 (omega arith)
    (pick-le _ 6 _ 10 (omega arith) (pick-le _ 7 _ 10 (omega arith) (pick-le _ 8 _ 10 (omega arith) (pick-le _ 9 10 10 (omega arith) (omega arith)))))))))

highest : (name : Bytes) → precedence name ≤ 10
unfolding precedence
highest name = pick-le (is_assignment name) 0 (precedence_of_first (first_character name)) 10 (omega arith) (first-le (first_character name))

all-not-above : (pieces : Pieces) → NotAbove 10 pieces
all-not-above [] = tt
all-not-above (next ∷ rest) = (highest next.operator.name, all-not-above rest)

-- ---- any way in which an operation takes what stands behind it

module _ (over : Operation → Operand → Operand) where
  -- all that wait, the last one first
  abbrev pub settled : List Operation → Operand → Operand
  settled [] a = a
  settled (op ∷ ops) a = settled ops (over op a)

  -- what waits still where an operator of this level follows, and what stands before that one
  abbrev pub folded : List Operation → ℕ → Operand → Folded
  folded [] level a = record { operations = []; last = a }
  folded (op ∷ ops) level a = if goes_first op level then folded ops level (over op a) else record { operations = op ∷ ops; last = a }

  -- an operator more that waits
  abbrev pub pushed : List Operation → Operand → Id → List Operation
  pushed ops last id = waiting (folded ops (precedence id.name) last) (record { text = id.name; span = id.place.span }) (precedence id.name) (is_right id.name)

  abbrev pub yard : List Operation → Operand → Pieces → Operand
  yard ops a [] = settled ops a
  yard ops a (next ∷ rest) = yard (pushed ops a next.operator) (put next.operand) rest

  -- an operator with the operands beside it
  abbrev pub join_kept : Joining (Option Tall)
  join_kept id a b =
      let o = over (entry (put a) id) (put b) in
      record { built = o.tall; span = o.span }

  fold-goes : (op : Operation) (ops : List Operation) (p : ℕ) (a : Operand) → goes_first op p ≡ true → folded (op ∷ ops) p a ≡ folded ops p (over op a)
  fold-goes op ops p a e = ap (λ b. if b then folded ops p (over op a) else (record { operations = op ∷ ops; last = a })) e

  fold-stays : (op : Operation) (ops : List Operation) (p : ℕ) (a : Operand) → goes_first op p ≡ false → folded (op ∷ ops) p a ≡ record { operations = op ∷ ops; last = a }
  fold-stays op ops p a e = ap (λ b. if b then folded ops p (over op a) else (record { operations = op ∷ ops; last = a })) e

  -- all of a level go first
  fold-through : (n p : ℕ) (rs ops : List Operation) (a : Operand) → AllRight n rs → p < n → folded (rs ++ ops) p a ≡ folded ops p (settled rs a)
  fold-through n p [] ops a h l = refl
  fold-through n p (op ∷ rs) ops a h l =
      (let below : p < op.level = omega (arith, h.0) in fold-goes op (rs ++ ops) p a (goes-lower op p below)) ∙ fold-through n p rs ops (over op a) h.2 l

  -- none of a lower level does
  fold-below : (n : ℕ) (ops : List Operation) (a : Operand) → AllBelow n ops → folded ops n a ≡ record { operations = ops; last = a }
  fold-below n [] a h = refl
  fold-below n (op ∷ ops) a h = fold-stays op ops n a (stays-below op n h.0)

  -- nor one that is right associative
  fold-right : (n : ℕ) (rs ops : List Operation) (a : Operand) → AllRight n rs → AllBelow n ops → folded (rs ++ ops) n a ≡ record { operations = rs ++ ops; last = a }
  fold-right n [] ops a h l = fold-below n ops a l
  fold-right n (op ∷ rs) ops a h l = fold-stays op (rs ++ ops) n a (stays-right op n h.0 h.1)

  folded-below : (n p : ℕ) (ops : List Operation) (a : Operand) → AllBelow n ops → AllBelow n (folded ops p a).operations
  folded-below n p [] a h = tt
  folded-below n p (op ∷ ops) a h = go (goes_first op p) (folded-below n p ops (over op a) h.1) where
    go : (b : Bool) → AllBelow n (folded ops p (over op a)).operations → AllBelow n (if b then folded ops p (over op a) else (record { operations = op ∷ ops; last = a })).operations
    go true k = k
    go false k = h

  settled-append : (rs ops : List Operation) (a : Operand) → settled (rs ++ ops) a ≡ settled ops (settled rs a)
  settled-append [] ops a = refl
  settled-append (op ∷ rs) ops a = settled-append rs ops (over op a)

  -- ---- one level

  -- an operation that goes before whatever follows
  joins-first : (n : ℕ) (a : Operand) (b : Piece) (id : Id) (ops : List Operation) (rest : Pieces) → precedence id.name ≡ n → is_right id.name ≡ false → NotAbove n rest
      → yard (entry a id ∷ ops) (put b) rest ≡ yard ops (over (entry a id) (put b)) rest
  joins-first n a b id ops [] p r h = refl
  joins-first n a b id ops (next ∷ rest) p r h =
      let below : precedence next.operator.name ≤ precedence id.name = omega (arith, p, h.0) in
      ap (λ f. yard (waiting f (record { text = next.operator.name; span = next.operator.place.span }) (precedence next.operator.name) (is_right next.operator.name)) (put next.operand) rest)
      (fold-goes (entry a id) ops (precedence next.operator.name) (put b) (goes-left (entry a id) (precedence next.operator.name) below r))

  abbrev at_level : ℕ → Piece → Pieces → Chain (Option Tall)
  at_level n a ops = joined_at join_kept n a ops

  -- what a level makes of an operator
  abbrev picked : Bool → Bool → ℕ → Piece → Id → Piece → Pieces → Chain (Option Tall)
  picked other right n a id b rest =
      if other then after_left a id (at_level n b rest) else (if right then joined_right join_kept a id (at_level n b rest) else at_level n (join_kept id a b) rest)

  one-level : (n : ℕ) (rs ops : List Operation) (a : Piece) (pieces : Pieces) → AllRight n rs → AllBelow n ops → NotAbove n pieces → are_of_one_side (ids_of pieces) ≡ true
      → RightBehind n rs (ids_of pieces)
      → yard (rs ++ ops) (put a) pieces ≡ yard ops (settled rs (put (at_level n a pieces).first)) (at_level n a pieces).operations
  one-level n rs ops a [] r l h s k = settled-append rs ops (put a)
  one-level n rs ops a (next ∷ rest) r l h s k =
      go (precedence id.name == n) refl
      (λ later below. one-level n [] later b rest tt below h.1 sides.1 tt)
      (λ p e. one-level n (entry (put a) id ∷ rs) ops b rest (p, e, r) l h.1 sides.1 (id, p, e, sides.0))
      (λ p. one-level n [] ops (join_kept id a b) rest tt l h.1 sides.1 tt)
    where
      id : Id
      id = next.operator

      b : Piece
      b = next.operand

      sides : (agrees_with id (ids_of rest) ≡ true) × (are_of_one_side (ids_of rest) ≡ true)
      sides = both (agrees_with id (ids_of rest)) (are_of_one_side (ids_of rest)) s

      wait_for : Folded → List Operation
      wait_for f = waiting f (record { text = id.name; span = id.place.span }) (precedence id.name) (is_right id.name)

      Goal : Chain (Option Tall) → Type 0
      Goal x = yard (pushed (rs ++ ops) (put a) id) (put b) rest ≡ yard ops (settled rs (put x.first)) x.operations

      pushes : precedence id.name ≡ n → pushed (rs ++ ops) (put a) id ≡ entry (put a) id ∷ (rs ++ ops)
      pushes p = ap (λ q. wait_for (folded (rs ++ ops) q (put a))) p ∙ ap wait_for (fold-right n rs ops (put a) r l)

      left : is_right id.name ≡ false → precedence id.name ≡ n → rs ≡ [] → (yard ops (put (join_kept id a b)) rest ≡ yard ops (put (at_level n (join_kept id a b) rest).first) (at_level n (join_kept id a b) rest).operations)
          → Goal (at_level n (join_kept id a b) rest)
      left e p none on =
          ap (λ q. yard q (put b) rest) (pushes p) ∙ ap (λ q. yard (entry (put a) id ∷ (q ++ ops)) (put b) rest) none
          ∙ joins-first n (put a) b id ops rest p e h.1 ∙ on
          ∙ ap (λ q. yard ops (settled q (put (at_level n (join_kept id a b) rest).first)) (at_level n (join_kept id a b) rest).operations) (sym none)

      same : precedence id.name ≡ n → (c : Bool) → is_right id.name ≡ c
          → (is_right id.name ≡ true → yard ((entry (put a) id ∷ rs) ++ ops) (put b) rest ≡ yard ops (settled (entry (put a) id ∷ rs) (put (at_level n b rest).first)) (at_level n b rest).operations)
          → (yard ops (put (join_kept id a b)) rest ≡ yard ops (put (at_level n (join_kept id a b) rest).first) (at_level n (join_kept id a b) rest).operations)
          → Goal (picked false c n a id b rest)
      same p true e right on = ap (λ q. yard q (put b) rest) (pushes p) ∙ right e
      same p false e right on = elim (behind-next n rs id (ids_of rest) p k) [
        | inl none ↦ left e p none on
        | inr so ↦ (let f : true ≡ false = sym so ∙ e in cc)
      ]

      go : (c : Bool) → (precedence id.name == n) ≡ c
          → ((later : List Operation) → AllBelow n later → yard later (put b) rest ≡ yard later (put (at_level n b rest).first) (at_level n b rest).operations)
          → (precedence id.name ≡ n → is_right id.name ≡ true
          → yard ((entry (put a) id ∷ rs) ++ ops) (put b) rest ≡ yard ops (settled (entry (put a) id ∷ rs) (put (at_level n b rest).first)) (at_level n b rest).operations)
          → (precedence id.name ≡ n → yard ops (put (join_kept id a b)) rest ≡ yard ops (put (at_level n (join_kept id a b) rest).first) (at_level n (join_kept id a b) rest).operations)
          → Goal (picked (not (precedence id.name == n)) (is_right id.name) n a id b rest)
      go false e lower right on =
          let below : precedence id.name < n = not-eq (precedence id.name) n h.0 e in
          subst Goal (ap (λ t. picked (not t) (is_right id.name) n a id b rest) (sym e))
          (ap (λ f. yard (wait_for f) (put b) rest) (fold-through n (precedence id.name) rs ops (put a) r below)
          ∙ lower (pushed ops (settled rs (put a)) id) (below_now below))
        where
          below_now : precedence id.name < n → AllBelow n (pushed ops (settled rs (put a)) id)
          below_now below = (below, folded-below n (precedence id.name) ops (settled rs (put a)) l)
      go true e lower right on =
          let p : precedence id.name ≡ n = eq-is (precedence id.name) n e in
          subst Goal (ap (λ t. picked (not t) (is_right id.name) n a id b rest) (sym e)) (same p (is_right id.name) refl (right p) (on p))

  -- ---- what a level leaves

  level-lower : (n : ℕ) (a : Piece) (pieces : Pieces) → NotAbove n pieces → Lower n (at_level n a pieces).operations
  level-lower n a [] h = tt
  level-lower n a (next ∷ rest) h =
      go (precedence next.operator.name == n) (is_right next.operator.name) refl (level-lower n next.operand rest h.1) (level-lower n (join_kept next.operator a next.operand) rest h.1)
    where
      go : (c d : Bool) → (precedence next.operator.name == n) ≡ c → Lower n (at_level n next.operand rest).operations → Lower n (at_level n (join_kept next.operator a next.operand) rest).operations
          → Lower n (picked (not c) d n a next.operator next.operand rest).operations
      go false d e x y = (not-eq (precedence next.operator.name) n h.0 e, x)
      go true true e x y = x
      go true false e x y = y

  agrees-left : (n : ℕ) (id : Id) (a : Piece) (pieces : Pieces) → precedence id.name < n → agrees_with id (ids_of pieces) ≡ true → agrees_with id (ids_of (at_level n a pieces).operations) ≡ true
  agrees-left n id a [] l e = refl
  agrees-left n id a (next ∷ rest) l e =
      go (precedence next.operator.name == n) (is_right next.operator.name) refl (λ f. agrees-left n id next.operand rest l f) (λ f. agrees-left n id (join_kept next.operator a next.operand) rest l f)
    where
      o : Id
      o = next.operator

      tail : (precedence o.name == n) ≡ true → agrees_with id (ids_of rest) ≡ true
      tail f =
          let p : precedence o.name ≡ n = eq-is (precedence o.name) n f in
          let step : ((not (precedence o.name == precedence id.name) || grammar.same_side id o) && agrees_with id (ids_of rest)) ≡ true =
          sym (ap (λ b. b || ((not (precedence o.name == precedence id.name) || grammar.same_side id o) && agrees_with id (ids_of rest))) (lt-false (precedence o.name) (precedence id.name) (omega (arith, p, l)))) ∙ e in
          (both (not (precedence o.name == precedence id.name) || grammar.same_side id o) (agrees_with id (ids_of rest)) step).1

      keep : (x y z w : Bool) → (x || (y && z)) ≡ true → (z ≡ true → w ≡ true) → (x || (y && w)) ≡ true
      keep true y z w f g = refl
      keep false true z w f g = g f
      keep false false z w f g = f

      go : (c d : Bool) → (precedence o.name == n) ≡ c
          → (agrees_with id (ids_of rest) ≡ true → agrees_with id (ids_of (at_level n next.operand rest).operations) ≡ true)
          → (agrees_with id (ids_of rest) ≡ true → agrees_with id (ids_of (at_level n (join_kept o a next.operand) rest).operations) ≡ true)
          → agrees_with id (ids_of (picked (not c) d n a o next.operand rest).operations) ≡ true
      go false d f x y = keep (nat_lt (precedence o.name) (precedence id.name)) (not (precedence o.name == precedence id.name) || grammar.same_side id o) (agrees_with id (ids_of rest)) _ e x
      go true true f x y = x (tail f)
      go true false f x y = y (tail f)

  level-side : (n : ℕ) (a : Piece) (pieces : Pieces) → NotAbove n pieces → are_of_one_side (ids_of pieces) ≡ true → are_of_one_side (ids_of (at_level n a pieces).operations) ≡ true
  level-side n a [] h e = refl
  level-side n a (next ∷ rest) h e =
      go (precedence o.name == n) (is_right o.name) refl (level-side n next.operand rest h.1 sides.1) (level-side n (join_kept o a next.operand) rest h.1 sides.1)
    where
      o : Id
      o = next.operator

      sides : (agrees_with o (ids_of rest) ≡ true) × (are_of_one_side (ids_of rest) ≡ true)
      sides = both (agrees_with o (ids_of rest)) (are_of_one_side (ids_of rest)) e

      and-true : (x y : Bool) → x ≡ true → y ≡ true → (x && y) ≡ true
      and-true x y f g = ap (λ b. b && y) f ∙ g

      go : (c d : Bool) → (precedence o.name == n) ≡ c → are_of_one_side (ids_of (at_level n next.operand rest).operations) ≡ true
          → are_of_one_side (ids_of (at_level n (join_kept o a next.operand) rest).operations) ≡ true → are_of_one_side (ids_of (picked (not c) d n a o next.operand rest).operations) ≡ true
      go false d f x y = and-true _ _ (agrees-left n o next.operand rest (not-eq (precedence o.name) n h.0 f) sides.0) x
      go true true f x y = x
      go true false f x y = y

  -- ---- all levels

  from-level : (n : ℕ) (chain : Chain (Option Tall)) → NotAbove n chain.operations → are_of_one_side (ids_of chain.operations) ≡ true
      → yard [] (put chain.first) chain.operations ≡ put (joined_from join_kept n chain).first
  from-level zero chain h s = one-level 0 [] [] chain.first chain.operations tt tt h s tt ∙ go (at_level 0 chain.first chain.operations) (level-lower 0 chain.first chain.operations h) where
    go : (x : Chain (Option Tall)) → Lower 0 x.operations → yard [] (put x.first) x.operations ≡ put x.first
    go x l = by x.operations l where
      by : (pieces : Pieces) → Lower 0 pieces → yard [] (put x.first) pieces ≡ put x.first
      by [] l = refl
      by (next ∷ rest) l = absurd (omega (arith, l.0))
  from-level (suc n) chain h s =
      one-level (suc n) [] [] chain.first chain.operations tt tt h s tt
      ∙ from-level n (at_level (suc n) chain.first chain.operations) (lower-next n _ (level-lower (suc n) chain.first chain.operations h)) (level-side (suc n) chain.first chain.operations h s)

  -- no operator is left
  from-empty : (n : ℕ) (chain : Chain (Option Tall)) → NotAbove n chain.operations → (joined_from join_kept n chain).operations ≡ []
  from-empty zero chain h = go (at_level 0 chain.first chain.operations).operations (level-lower 0 chain.first chain.operations h) where
    go : (pieces : Pieces) → Lower 0 pieces → pieces ≡ []
    go [] l = refl
    go (next ∷ rest) l = absurd (omega (arith, l.0))
  from-empty (suc n) chain h =
      from-empty n (at_level (suc n) chain.first chain.operations) (lower-next n _ (level-lower (suc n) chain.first chain.operations h))

  pub joined-empty : (chain : Chain (Option Tall)) → (joined_from join_kept 10 chain).operations ≡ []
  joined-empty chain = from-empty 10 chain (all-not-above chain.operations)

  -- the operands and operators as they come make what the grammar makes of them
  pub yard-joined : (chain : Chain (Option Tall)) → are_of_one_side (ids_of chain.operations) ≡ true → yard [] (put chain.first) chain.operations ≡ put (joined join_kept chain)
  unfolding joined
  yard-joined chain s = from-level 10 chain (all-not-above chain.operations) s
