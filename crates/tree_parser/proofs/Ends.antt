-- From the first of some things to the last.
use Rattle.std.proofs.Common.{◌≡◌, ◌-◌, ◌≤◌, List, [], ◌∷◌, length, get_or, map, Some, refl, sym, ap, ◌∙◌, arith}
use Rattle.pc_terms.specs.declared.problems.Span.{Span}
use Rattle.parse_exprs.specs.Lists.{end_of, over_all, span_over}

end_at : {X : Type 0} (span_of : X → Span) (x : X) (xs : List X) (d : X) → end_of (span_of x).end (map span_of xs) ≡ (span_of (get_or (x ∷ xs) (length xs) d)).end
end_at span_of x [] d = refl
end_at span_of x (y ∷ ys) d = end_at span_of y ys d

pub ends_at : {X : Type 0} (span_of : X → Span) (xs : List X) (d : X) → 1 ≤ length xs
    → record { start = (span_of (get_or xs 0 d)).start; end = (span_of (get_or xs (length xs - 1) d)).end } ≡ over_all (map span_of xs)
ends_at span_of [] d some = absurd (omega (arith, some))
ends_at span_of (x ∷ xs) d some =
    let e : length (x ∷ xs) - 1 ≡ length xs = omega arith in
    λ i. record { start = (span_of x).start; end = (ap (λ n. (span_of (get_or (x ∷ xs) n d)).end) e ∙ sym (end_at span_of x xs d)) i }

pub ends : {X : Type 0} (span_of : X → Span) (xs : List X) (a b : X) → 1 ≤ length xs → a ≡ get_or xs 0 a → b ≡ get_or xs (length xs - 1) b
    → record { start = (span_of a).start; end = (span_of b).end } ≡ over_all (map span_of xs)
ends span_of [] a b some at last = absurd (omega (arith, some))
ends span_of (x ∷ xs) a b some at last =
    let e : length (x ∷ xs) - 1 ≡ length xs = omega arith in
    let there : b ≡ get_or (x ∷ xs) (length xs) b = last ∙ ap (λ n. get_or (x ∷ xs) n b) e in
    λ i. record { start = (span_of (at i)).start; end = (ap (λ z. (span_of z).end) there ∙ sym (end_at span_of x xs b)) i }

pub over_some : (spans : List Span) → 1 ≤ length spans → Some (over_all spans) ≡ span_over spans
over_some [] some = absurd (omega (arith, some))
over_some (span ∷ spans) some = refl
