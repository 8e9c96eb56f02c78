-- A loop that counts its steps up, against a rule that counts them down.
use Rattle.std.proofs.Common.{◌≡◌, ℕ, suc, ◌+◌, ◌-◌, ◌<◌, sym, ap, subst, ◌∙◌, arith}

one-left : (most step : ℕ) → step < most → most - step ≡ suc (most - (step + 1))
one-left most step lt = omega (arith, lt)

module _ {S R : Type 0} (rule : ℕ → S → R) (most step : ℕ) (whole : R) (old : S) where
  here : step < most → rule (most - step) old ≡ whole → rule (suc (most - (step + 1))) old ≡ whole
  here lt so = ap (λ m. rule m old) (sym (one-left most step lt)) ∙ so

  -- after one more step
  pub goes-on : (new : S) → step < most → ((n : ℕ) → rule (suc n) old ≡ rule n new) → rule (most - step) old ≡ whole → rule (most - (step + 1)) new ≡ whole
  goes-on new lt again so = sym (again (most - (step + 1))) ∙ here lt so

  -- where a step ends it
  pub ends-with : (P : R → Type 0) → step < most → ((n : ℕ) → P (rule (suc n) old)) → rule (most - step) old ≡ whole → P whole
  ends-with P lt at so = subst P (here lt so) (at (most - (step + 1)))
