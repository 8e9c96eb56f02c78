-- Operators that wait, one after the other.
use Rattle.std.proofs.Common.{◌≡◌, ℕ, ◌+◌, ◌<◌, nat_lt, Bool, true, if◌then◌else◌, List, [], ◌∷◌, drop, Some, refl, ap, sym, ◌∙◌, arith}
use Rattle.std.specs.Prelude.{not, ◌||◌, ◌==◌}
use Rattle.std.proofs.lemmas.Bool.Decides.{nat_tests}
use Rattle.reading_machines.proofs.Runs.{at-next}
use Rattle.parse_parts.specs.Steps.{first}
use Rattle.parse_patterns.specs.declared.states.Operation.{Operation}
use Rattle.parse_patterns.specs.Operators.{fits, same_side}

pub lt-true : (a b : ℕ) → a < b → nat_lt a b ≡ true
lt-true a b e = grind (arith, nat_tests, e)

pub fits-over : (op : Operation) (ops : List Operation) (level : ℕ) (right : Bool) → level < op.level → fits (op ∷ ops) level right ≡ fits ops level right
fits-over op ops level right e =
    ap (λ b. if b then fits ops level right else (not (op.level == level) || same_side op.right right)) (lt-true level op.level e)

pub fits-next : (ops : List Operation) (n : ℕ) (op : Operation) (level : ℕ) (right : Bool) → Some op ≡ first (drop n ops) → level < op.level
    → fits (drop (n + 1) ops) level right ≡ fits (drop n ops) level right
fits-next ops n op level right e f = go (drop n ops) refl e where
  go : (left : List Operation) → drop n ops ≡ left → Some op ≡ first left → fits (drop (n + 1) ops) level right ≡ fits (drop n ops) level right
  go [] d s = cc
  go (o ∷ os) d s =
      let same : o ≡ op = cc in
      let next = at-next n ops o os d in
      ap (λ xs. fits xs level right) next.left ∙ sym (fits-over op os level right f) ∙ ap (λ x. fits (x ∷ os) level right) (sym same) ∙ ap (λ xs. fits xs level right) (sym d)
