-- Tokens and problems in the order of a text.
use Rattle.std.specs.Prelude.{ℕ, ◌≤◌, List, [], ◌∷◌}
use Rattle.pc_terms.specs.declared.problems.Span.{Span}
use Rattle.scan_tokens.specs.declared.tokens.Token.{Token}

-- a span within so many bytes
abbrev pub IsWithin : ℕ → Span → Type 0
IsWithin total span = (span.start ≤ span.end) × (span.end ≤ total)

-- each begins where the one before it ends, or later, and the first at `at` or later
abbrev pub AreInOrder : ℕ → ℕ → List Token → Type 0
AreInOrder total at [] = Unit {0}
AreInOrder total at (t ∷ ts) = (at ≤ t.span.start) × IsWithin total t.span × AreInOrder total t.span.end ts

-- the same of spans
abbrev pub SpansAreInOrder : ℕ → ℕ → List Span → Type 0
SpansAreInOrder total at [] = Unit {0}
SpansAreInOrder total at (s ∷ ss) = (at ≤ s.start) × IsWithin total s × SpansAreInOrder total s.end ss
