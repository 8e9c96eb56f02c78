-- Words joined by a separator, and cut at it again.
use Rattle.std.proofs.Common.{◌≡◌, ℕ, zero, suc, ◌+◌, ◌*◌, ◌/◌, Bool, true, false, not, ◌==◌, cond, List, [], ◌∷◌, ◌++◌, drop, replicate, one-add, refl, sym, ap, ◌∙◌, arith}
use Rattle.std.specs.List.{list_all, join_with_byte, prefix_len}
use Rattle.std.proofs.lemmas.Bool.{false≢true}
use Rattle.std.proofs.lemmas.Bool.Decides.{nat_tests}
use Rattle.script_text.specs.Words.{Bytes, split, onto_first}
use Rattle.script_text.specs.Pieces.{is_other}
use Rattle.script_text.specs.Reading.{is_space}
use Rattle.script_text.proofs.WordLemmas.{left_of_both, right_of_both}

abbrev pub lacks : ℕ → Bytes → Bool
lacks c bytes = list_all (is_other c) bytes

not_equal : (x : Bool) → not x ≡ true → x ≡ false
not_equal true h = absurd (false≢true h)
not_equal false h = refl

same_byte : (c : ℕ) → (c == c) ≡ true
same_byte c = grind (arith, nat_tests)

split-one : (c : ℕ) (word : Bytes) → lacks c word ≡ true → split c word ≡ word ∷ []
split-one c [] h = refl
split-one c (b ∷ bs) h =
    let other : (b == c) ≡ false = not_equal (b == c) (left_of_both (not (b == c)) (lacks c bs) h) in
    let rest : split c bs ≡ bs ∷ [] = split-one c bs (right_of_both (not (b == c)) (lacks c bs) h) in
    rw (other, rest) refl

split-first : (c : ℕ) (word rest : Bytes) → lacks c word ≡ true → split c (word ++ c ∷ rest) ≡ word ∷ split c rest
split-first c [] rest h = rw (same_byte c) refl
split-first c (b ∷ bs) rest h =
    let other : (b == c) ≡ false = not_equal (b == c) (left_of_both (not (b == c)) (lacks c bs) h) in
    let more : split c (bs ++ c ∷ rest) ≡ bs ∷ split c rest = split-first c bs rest (right_of_both (not (b == c)) (lacks c bs) h) in
    rw (other, more) refl

-- words without the separator are cut where they were joined
pub split-join : (c : ℕ) (word : Bytes) (words : List Bytes) → list_all (lacks c) (word ∷ words) ≡ true → split c (join_with_byte c (word ∷ words)) ≡ word ∷ words
split-join c word [] h = split-one c word (left_of_both _ _ h)
split-join c word (next ∷ words) h =
    split-first c word (join_with_byte c (next ∷ words)) (left_of_both _ _ h) ∙ ap (λ rest. word ∷ rest) (split-join c next words (right_of_both _ _ h))

join-empty : (c : ℕ) (pieces : List Bytes) (bytes : Bytes) → (first : Bytes) × (rest : List Bytes) × (pieces ≡ first ∷ rest) → join_with_byte c pieces ≡ bytes → join_with_byte c ([] ∷ pieces) ≡ c ∷ bytes
join-empty c pieces bytes some joined = rw (some.2) (ap (λ more. c ∷ more) (ap (join_with_byte c) (sym some.2) ∙ joined))

join-onto : (c b : ℕ) (pieces : List Bytes) (bytes : Bytes) → join_with_byte c pieces ≡ bytes → join_with_byte c (onto_first b pieces) ≡ b ∷ bytes
join-onto c b [] bytes joined = ap (λ more. b ∷ more) joined
join-onto c b (piece ∷ []) bytes joined = ap (λ more. b ∷ more) joined
join-onto c b (piece ∷ next ∷ pieces) bytes joined = ap (λ more. b ∷ more) joined

some_piece : (c : ℕ) (bytes : Bytes) → (first : Bytes) × (rest : List Bytes) × (split c bytes ≡ first ∷ rest)
some_piece c [] = ([], [], refl)
some_piece c (b ∷ bs) = by (b == c) (split c bs)
  where
    by : (t : Bool) (pieces : List Bytes) → (first : Bytes) × (rest : List Bytes) × (cond t ([] ∷ pieces) (onto_first b pieces) ≡ first ∷ rest)
    by true pieces = ([], pieces, refl)
    by false [] = (b ∷ [], [], refl)
    by false (piece ∷ pieces) = (b ∷ piece, pieces, refl)

join-split-one : (c b : ℕ) (bs : Bytes) (t : Bool) → (b == c) ≡ t → join_with_byte c (split c bs) ≡ bs → join_with_byte c (cond t ([] ∷ split c bs) (onto_first b (split c bs))) ≡ b ∷ bs
join-split-one c b bs true e rest = let is : c ≡ b = grind (arith, nat_tests) in join-empty c (split c bs) bs (some_piece c bs) rest ∙ ap (λ x. x ∷ bs) is
join-split-one c b bs false e rest = join-onto c b (split c bs) bs rest

-- the pieces joined by the separator give the text back
pub join-split : (c : ℕ) (bytes : Bytes) → join_with_byte c (split c bytes) ≡ bytes
join-split c [] = refl
join-split c (b ∷ bs) = join-split-one c b bs (b == c) refl (join-split c bs)

-- ---- the spaces before the words

spaces_of : (b : ℕ) (bs : Bytes) (n : ℕ) (t : Bool) → (b == 32) ≡ t → bs ≡ replicate n 32 ++ drop n bs
    → b ∷ bs ≡ replicate (cond t (1 + n) 0) 32 ++ drop (cond t (1 + n) 0) (b ∷ bs)
spaces_of b bs n true e rest = let is : b ≡ 32 = grind (arith, nat_tests) in rw one-add (ap (λ x. x ∷ bs) is ∙ ap (λ more. 32 ∷ more) rest)
spaces_of b bs n false e rest = refl

pub spaces_first : (bytes : Bytes) → bytes ≡ replicate (prefix_len is_space bytes) 32 ++ drop (prefix_len is_space bytes) bytes
spaces_first [] = refl
spaces_first (b ∷ bs) = spaces_of b bs (prefix_len is_space bs) (b == 32) refl (spaces_first bs)

pub prefix_len-spaces : (n b : ℕ) (rest : Bytes) → (b == 32) ≡ false → prefix_len is_space (replicate n 32 ++ b ∷ rest) ≡ n
prefix_len-spaces zero b rest h = rw h refl
prefix_len-spaces (suc n) b rest h = rw (prefix_len-spaces n b rest h, one-add) refl

pub drop-spaces : (n : ℕ) (rest : Bytes) → drop n (replicate n 32 ++ rest) ≡ rest
drop-spaces zero rest = refl
drop-spaces (suc n) rest = drop-spaces n rest

pub half-double : (n : ℕ) → 2 * n / 2 ≡ n
half-double n = omega arith
