-- Tokens that stand between two offsets.
use Rattle.std.proofs.Common.{◌≢◌, ℕ, ◌≤◌, List, [], ◌∷◌, ◌++◌, refl, arith}
use Rattle.source_grammar.specs.Lexemes.{Lexeme}
use Rattle.source_grammar.specs.Spans.{span_of, end_behind}

-- these tokens stand there, each behind the one before it
abbrev pub StandBetween : ℕ → List Lexeme → ℕ → Type 0
StandBetween low [] high = low ≤ high
StandBetween low (x ∷ xs) high = (low ≤ x.place.span.start) × (x.place.span.start ≤ x.place.span.end) × StandBetween x.place.span.end xs high

pub token-order : (low high : ℕ) (xs : List Lexeme) → StandBetween low xs high → low ≤ high
token-order low high [] s = s
token-order low high (x ∷ xs) s = omega (arith, s.0, s.1, token-order x.place.span.end high xs s.2)

pub front-stands : (low high : ℕ) (xs ys : List Lexeme) → StandBetween low (xs ++ ys) high → StandBetween low xs (end_behind low xs)
front-stands low high [] ys s = omega arith
front-stands low high (x ∷ xs) ys s = (s.0, s.1, front-stands x.place.span.end high xs ys s.2)

pub back-stands : (low high : ℕ) (xs ys : List Lexeme) → StandBetween low (xs ++ ys) high → StandBetween (end_behind low xs) ys high
back-stands low high [] ys s = s
back-stands low high (x ∷ xs) ys s = back-stands x.place.span.end high xs ys s.2

-- between the start of the first and the end of the last
tightly : (low high : ℕ) (xs : List Lexeme) → StandBetween low xs high → StandBetween low xs (end_behind low xs)
tightly low high [] s = omega arith
tightly low high (x ∷ xs) s = (s.0, s.1, tightly x.place.span.end high xs s.2)

end-within : (low high : ℕ) (xs : List Lexeme) → StandBetween low xs high → end_behind low xs ≤ high
end-within low high [] s = s
end-within low high (x ∷ xs) s = end-within x.place.span.end high xs s.2

pub record InSpan (low : ℕ) (xs : List Lexeme) (high : ℕ) : Type 0 where
  pub begins : low ≤ (span_of xs).start
  pub stands : StandBetween (span_of xs).start xs (span_of xs).end
  pub ends : (span_of xs).end ≤ high

pub in-span : (low high : ℕ) (xs : List Lexeme) → xs ≢ [] → StandBetween low xs high → InSpan low xs high
in-span low high [] full s = absurd (full refl)
in-span low high (x ∷ xs) full s =
    record { begins = s.0; stands = (omega arith, s.1, tightly x.place.span.end high xs s.2); ends = end-within x.place.span.end high xs s.2 }
