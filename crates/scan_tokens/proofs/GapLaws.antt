-- The newline that is found in a gap is the one that it has.
use Rattle.std.proofs.Common.{◌≡◌, ℕ, Bool, true, false, ◌||◌, ◌&&◌, ◌==◌, ◌⊎◌, inl, inr, [], ◌∷◌, ◌++◌, refl, ap, sym, ◌∙◌, subst}
use Rattle.scan_tokens.specs.declared.tokens.Newline.{Newline}
use Rattle.scan_tokens.specs.declared.tokens.Newline.TheVariants.{No, One, Blank}
use Rattle.scan_tokens.specs.Characters.{is_space}
use Rattle.scan_tokens.specs.Division.{Each}
use Rattle.scan_tokens.specs.Gaps.{HasNewline, HasBlankLine, IsNewlineOf}
use Rattle.scan_tokens.specs.Words.{Bytes}
use Rattle.scan_tokens.specs.Newlines.{ends_line, newline_in}
use Rattle.scan_tokens.proofs.Steps.{which, both, same_number}

abbrev first_of_list : Bytes → ℕ
first_of_list [] = 0
first_of_list (b ∷ bs) = b

abbrev others_of_list : Bytes → Bytes
others_of_list [] = []
others_of_list (b ∷ bs) = bs

-- the rest of a line of white space alone
record EndsLine (bs : Bytes) : Type 0 where
  pub line : Bytes
  pub back : Bytes
  pub text : bs ≡ line ++ 10 ∷ back
  pub spaces : Each is_space line

either : (a b : Bool) → (a || b) ≡ true → (a ≡ true) ⊎ (b ≡ true)
either true b e = inl refl
either false b e = inr e

or_right : (a b : Bool) → b ≡ true → (a || b) ≡ true
or_right true b e = refl
or_right false b e = e

ends_line-sound : (bs : Bytes) → ends_line bs ≡ true → EndsLine bs
ends_line-sound [] e = cc
ends_line-sound (b ∷ bs) e = go (either (b == 10) (is_space b && ends_line bs) e) (ends_line-sound bs) where
  go : ((b == 10) ≡ true) ⊎ ((is_space b && ends_line bs) ≡ true) → (ends_line bs ≡ true → EndsLine bs) → EndsLine (b ∷ bs)
  go (inl is) later = record { line = []; back = bs; text = ap (λ n. n ∷ bs) (same_number b 10 is); spaces = tt }
  go (inr goes) later =
      let t = both (is_space b) (ends_line bs) goes in
      let l = later t.1 in
      record { line = b ∷ l.line; back = l.back; text = ap (λ xs. b ∷ xs) l.text; spaces = (t.0, l.spaces) }

ends_line-complete : (line back : Bytes) → Each is_space line → ends_line (line ++ 10 ∷ back) ≡ true
ends_line-complete [] back s = refl
ends_line-complete (b ∷ line) back s =
    let rest = ends_line (line ++ 10 ∷ back) in
    or_right (b == 10) (is_space b && rest) (ap (λ a. a && rest) s.0 ∙ ends_line-complete line back s.1)

more_newline : (b : ℕ) (bs : Bytes) → HasNewline bs → HasNewline (b ∷ bs)
more_newline b bs h = record { front = b ∷ h.front; back = h.back; text = ap (λ xs. b ∷ xs) h.text }

more_blank : (b : ℕ) (bs : Bytes) → HasBlankLine bs → HasBlankLine (b ∷ bs)
more_blank b bs h = record { front = b ∷ h.front; line = h.line; back = h.back; text = ap (λ xs. b ∷ xs) h.text; spaces = h.spaces }

no_newline : HasNewline [] → ⊥
no_newline h = go h.front h.text where
  go : (front : Bytes) → [] ≡ front ++ 10 ∷ h.back → ⊥
  go [] e = cc
  go (x ∷ xs) e = cc

no_blank : HasBlankLine [] → ⊥
no_blank h = no_newline (record { front = h.front; back = h.line ++ 10 ∷ h.back; text = h.text })

less_newline : (b : ℕ) (bs : Bytes) → (b == 10) ≡ false → HasNewline (b ∷ bs) → HasNewline bs
less_newline b bs e h = go h.front h.text where
  go : (front : Bytes) → b ∷ bs ≡ front ++ 10 ∷ h.back → HasNewline bs
  go [] f = absurd (let first : b ≡ 10 = ap first_of_list f in let P : ℕ → Type 0 = λ n. (n == 10) ≡ false in let g : true ≡ false = subst P first e in cc)
  go (x ∷ xs) f = record { front = xs; back = h.back; text = ap others_of_list f }

less_blank : (b : ℕ) (bs : Bytes) → ((b == 10) ≡ false) ⊎ (ends_line bs ≡ false) → HasBlankLine (b ∷ bs) → HasBlankLine bs
less_blank b bs e h = go h.front h.text where
  go : (front : Bytes) → b ∷ bs ≡ front ++ 10 ∷ (h.line ++ 10 ∷ h.back) → HasBlankLine bs
  go [] f = absurd (elim e [
    | inl n ↦ (let first : b ≡ 10 = ap first_of_list f in let P : ℕ → Type 0 = λ n. (n == 10) ≡ false in let g : true ≡ false = subst P first n in cc)
    | inr n ↦ (let others : bs ≡ h.line ++ 10 ∷ h.back = ap others_of_list f in
        let g : true ≡ false = sym (ends_line-complete h.line h.back h.spaces) ∙ ap ends_line (sym others) ∙ n in cc)
  ])
  go (x ∷ xs) f = record { front = xs; line = h.line; back = h.back; text = ap others_of_list f; spaces = h.spaces }

-- what is found, where `found` was found before
abbrev Outcome : Newline → Bytes → Newline → Type 0
Outcome found bs result =
    (HasBlankLine bs × (result ≡ Blank)) ⊎ ((HasBlankLine bs → ⊥) × (((HasNewline bs → ⊥) × (result ≡ found)) ⊎ (HasNewline bs × (result ≡ One))))

newline_in-outcome : (found : Newline) (bs : Bytes) → Outcome found bs (newline_in found bs)
newline_in-outcome found [] = inr (no_blank, inl (no_newline, refl))
newline_in-outcome found (b ∷ bs) =
    elim (which (b == 10)) [
      | inl is ↦ elim (which (ends_line bs)) [
        | inl ends ↦
            let l = ends_line-sound bs ends in
            rw (is, ends) (inl (
              record {
                front = [];
                line = l.line;
                back = l.back;
                spaces = l.spaces;
                text = ap (λ n. n ∷ bs) (same_number b 10 is) ∙ ap (λ xs. 10 ∷ xs) l.text;
              },
              refl,
            ))
        | inr goes ↦ rw (is, goes) (after_newline is goes (newline_in One bs) (newline_in-outcome One bs))
      ]
      | inr isnt ↦ rw isnt (after_other isnt (newline_in found bs) (newline_in-outcome found bs))
    ] where
      after_newline : (b == 10) ≡ true → ends_line bs ≡ false → (result : Newline) → Outcome One bs result → Outcome found (b ∷ bs) result
      after_newline is goes result (inl o) = inl (more_blank b bs o.0, o.1)
      after_newline is goes result (inr o) =
          inr (λ h. o.0 (less_blank b bs (inr goes) h), inr (record { front = []; back = bs; text = ap (λ n. n ∷ bs) (same_number b 10 is) }, one o.1)) where
            one : ((HasNewline bs → ⊥) × (result ≡ One)) ⊎ (HasNewline bs × (result ≡ One)) → result ≡ One
            one (inl p) = p.1
            one (inr p) = p.1

      after_other : (b == 10) ≡ false → (result : Newline) → Outcome found bs result → Outcome found (b ∷ bs) result
      after_other isnt result (inl o) = inl (more_blank b bs o.0, o.1)
      after_other isnt result (inr o) = inr (λ h. o.0 (less_blank b bs (inl isnt) h), go o.1) where
        go : ((HasNewline bs → ⊥) × (result ≡ found)) ⊎ (HasNewline bs × (result ≡ One))
            → ((HasNewline (b ∷ bs) → ⊥) × (result ≡ found)) ⊎ (HasNewline (b ∷ bs) × (result ≡ One))
        go (inl p) = inl (λ h. p.0 (less_newline b bs isnt h), p.1)
        go (inr p) = inr (more_newline b bs p.0, p.1)

pub newline_in-is : (gap : Bytes) → IsNewlineOf gap (newline_in No gap)
newline_in-is gap = go (newline_in No gap) (newline_in-outcome No gap) where
  go : (result : Newline) → Outcome No gap result → IsNewlineOf gap result
  go result (inl o) = let P : Newline → Type 0 = IsNewlineOf gap in subst P (sym o.1) o.0
  go result (inr (blank, inl (none, e))) = let P : Newline → Type 0 = IsNewlineOf gap in subst P (sym e) none
  go result (inr (blank, inr (some, e))) = let P : Newline → Type 0 = IsNewlineOf gap in subst P (sym e) (some, blank)
