-- The pieces between the places of a separator.
use Rattle.std.proofs.Common.{◌≡◌, ℕ, suc, Bool, true, false, not, ◌==◌, cond, ◌+◌, ◌<◌, ◌≤◌, List, [], ◌∷◌, length, take, drop, Option, Some, None, refl, ap, ◌∙◌, add-one, one-add, drop-cons}
use Rattle.std.specs.List.{prefix_len}
use Rattle.std.proofs.Math.ListN.{drop_of_length-le}
use Rattle.script_text.specs.Words.{split, onto_first}
use Rattle.script_text.specs.Pieces.{is_other}
use Rattle.std.proofs.lemmas.Bool.{false≢true}
use Rattle.ask_history.specs.declared.script.Order.{Order}
use Rattle.script_text.specs.Standing.{is_some_list}
use Rattle.script_text.specs.Reading.{exactly_one, exactly_two, nothing_else}

-- what stands from the first separator on
abbrev behind_first : ℕ → List ℕ → List (List ℕ)
behind_first separator [] = []
behind_first separator (b ∷ bs) = split separator bs

split_one : (separator b : ℕ) (bs : List ℕ) (n : ℕ) (stop : Bool)
    → split separator bs ≡ take n bs ∷ behind_first separator (drop n bs)
    → cond stop ([] ∷ split separator bs) (onto_first b (split separator bs))
    ≡ take (cond (not stop) (1 + n) 0) (b ∷ bs) ∷ behind_first separator (drop (cond (not stop) (1 + n) 0) (b ∷ bs))
split_one separator b bs n true rest = refl
split_one separator b bs n false rest = rw (rest, one-add) refl

split_by_prefix : (separator : ℕ) (bs : List ℕ)
    → split separator bs ≡ take (prefix_len (is_other separator) bs) bs ∷ behind_first separator (drop (prefix_len (is_other separator) bs) bs)
split_by_prefix separator [] = refl
split_by_prefix separator (b ∷ bs) = split_one separator b bs (prefix_len (is_other separator) bs) (b == separator) (split_by_prefix separator bs)

behind_first-drop : (separator : ℕ) (bs : List ℕ) (n : ℕ) → n < length bs → behind_first separator (drop n bs) ≡ split separator (drop (n + 1) bs)
behind_first-drop separator bs n h = rw (add-one, drop-cons bs n 0) refl

-- with a separator after the first piece, and without
pub split_at_separator : (separator : ℕ) (bs : List ℕ) (n : ℕ) → n ≡ prefix_len (is_other separator) bs → n < length bs
    → split separator bs ≡ take n bs ∷ split separator (drop (n + 1) bs)
split_at_separator separator bs n is_prefix h =
    rw (← is_prefix) at (split_by_prefix separator bs) ∙ ap (λ rest. take n bs ∷ rest) (behind_first-drop separator bs n h)

pub split_at_end : (separator : ℕ) (bs : List ℕ) (n : ℕ) → n ≡ prefix_len (is_other separator) bs → length bs ≤ n
    → split separator bs ≡ take n bs ∷ []
split_at_end separator bs n is_prefix h =
    rw (← is_prefix) at (split_by_prefix separator bs) ∙ ap (λ rest. take n bs ∷ behind_first separator rest) (drop_of_length-le bs h)

pub ruleset cut_rules = (split_at_separator, split_at_end)

-- ---- how many pieces

pub two_pieces : (a : List ℕ) (separator : ℕ) (rest : List ℕ) → exactly_one (a ∷ split separator rest) ≡ None
two_pieces a separator [] = refl
two_pieces a separator (x ∷ rest) =
    elim (x == separator) as (λ stop. exactly_one (a ∷ cond stop ([] ∷ split separator rest) (onto_first x (split separator rest))) ≡ None)
    [ true ↦ refl | false ↦ onto (split separator rest) ]
  where
    onto : (pieces : List (List ℕ)) → exactly_one (a ∷ onto_first x pieces) ≡ None
    onto [] = refl
    onto (piece ∷ pieces) = refl

pub three_pieces : (a b : List ℕ) (separator : ℕ) (rest : List ℕ) → exactly_two (a ∷ b ∷ split separator rest) ≡ None
three_pieces a b separator [] = refl
three_pieces a b separator (x ∷ rest) =
    elim (x == separator) as (λ stop. exactly_two (a ∷ b ∷ cond stop ([] ∷ split separator rest) (onto_first x (split separator rest))) ≡ None)
    [ true ↦ refl | false ↦ onto (split separator rest) ]
  where
    onto : (pieces : List (List ℕ)) → exactly_two (a ∷ b ∷ onto_first x pieces) ≡ None
    onto [] = refl
    onto (piece ∷ pieces) = refl

some_onto : (x : ℕ) (pieces : List (List ℕ)) → is_some_list (onto_first x pieces) ≡ true
some_onto x [] = refl
some_onto x (piece ∷ pieces) = refl

pub some_pieces : (separator : ℕ) (rest : List ℕ) → is_some_list (split separator rest) ≡ true
some_pieces separator [] = refl
some_pieces separator (x ∷ rest) =
    elim (x == separator) as (λ stop. is_some_list (cond stop ([] ∷ split separator rest) (onto_first x (split separator rest))) ≡ true)
    [ true ↦ refl | false ↦ some_onto x (split separator rest) ]

more_than : (own : Order) (pieces : List (List ℕ)) → is_some_list pieces ≡ true → nothing_else own pieces ≡ None
more_than own [] h = absurd (false≢true h)
more_than own (piece ∷ pieces) h = refl

pub nothing_behind : (own : Order) (separator : ℕ) (rest : List ℕ) → nothing_else own (split separator rest) ≡ None
nothing_behind own separator rest = more_than own (split separator rest) (some_pieces separator rest)

-- a measure of a loop over pieces
abbrev pub bytes_left : Option (List ℕ) → ℕ
bytes_left None = 0
bytes_left (Some rest) = suc (length rest)
