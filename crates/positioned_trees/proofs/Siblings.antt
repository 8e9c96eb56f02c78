-- How many siblings that do not overlap hold an offset.
use Rattle.std.proofs.Common.{◌≡◌, ℕ, ◌<◌, ◌≤◌, nat_lt, true, ◌&&◌, List, [], ◌∷◌, length, inl, inr, arith}
use Rattle.std.specs.List.{All, AllPairs}
use Rattle.std.proofs.lemmas.Bool.Decides.{nat_tests}
use Rattle.std.proofs.lemmas.List.Elements.{filter_passes}
use Rattle.std.proofs.lemmas.List.Kept.{AllPairs-filter}
use Rattle.pc_terms.specs.declared.problems.Span.{Span}
use Rattle.positioned_trees.specs.Located.{AreApart, KeepsKidsApart, holds_offset, holding, opaque_spans}
use Rattle.positioned_trees.specs.declared.trees.Tree.{Tree}

record Holds (span : Span) (offset : ℕ) : Type 0 where
  begun : span.start ≤ offset
  ended : offset ≤ span.end
  long : span.start < span.end

holds-from_test : (span : Span) (offset : ℕ) → (nat_lt span.start span.end && holds_offset span offset) ≡ true → Holds span offset
holds-from_test span offset e =
    record { begun = grind (arith, nat_tests, e); ended = grind (arith, nat_tests, e); long = grind (arith, nat_tests, e) }

-- no three spans that hold an offset are apart
not_three : (a b c : Span) (offset : ℕ) → Holds a offset → Holds b offset → Holds c offset → AreApart a b → AreApart a c → AreApart b c → ⊥
not_three a b c offset ha hb hc (inl ab) (inl ac) (inl bc) = omega arith
not_three a b c offset ha hb hc (inl ab) (inl ac) (inr bc) = omega arith
not_three a b c offset ha hb hc (inl ab) (inr ac) (inl bc) = omega arith
not_three a b c offset ha hb hc (inl ab) (inr ac) (inr bc) = omega arith
not_three a b c offset ha hb hc (inr ab) (inl ac) (inl bc) = omega arith
not_three a b c offset ha hb hc (inr ab) (inl ac) (inr bc) = omega arith
not_three a b c offset ha hb hc (inr ab) (inr ac) (inl bc) = omega arith
not_three a b c offset ha hb hc (inr ab) (inr ac) (inr bc) = omega arith

few : (spans : List Span) (offset : ℕ) → AllPairs AreApart spans
    → All (λ span. (nat_lt span.start span.end && holds_offset span offset) ≡ true) spans → length spans ≤ 2
few [] offset pairs each = omega arith
few (a ∷ []) offset pairs each = omega arith
few (a ∷ b ∷ []) offset pairs each = omega arith
few (a ∷ b ∷ c ∷ spans) offset pairs each =
    absurd (not_three a b c offset
    (holds-from_test a offset (each 0 a (omega arith))) (holds-from_test b offset (each 1 a (omega arith))) (holds-from_test c offset (each 2 a (omega arith)))
    (pairs 0 1 a (omega arith) (omega arith)) (pairs 0 2 a (omega arith) (omega arith)) (pairs 1 2 a (omega arith) (omega arith)))

pub few-apart : (tree : Tree) (offset : ℕ) → KeepsKidsApart tree → length (holding offset (opaque_spans tree)) ≤ 2
few-apart tree offset apart =
    few (holding offset (opaque_spans tree)) offset
    (AllPairs-filter AreApart (λ span. nat_lt span.start span.end && holds_offset span offset) (opaque_spans tree) apart)
    (filter_passes (λ span. nat_lt span.start span.end && holds_offset span offset) (opaque_spans tree))
