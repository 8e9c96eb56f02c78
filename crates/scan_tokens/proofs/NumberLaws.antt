-- The kind of a run that begins with a digit is that of the number that it is.
use Rattle.std.proofs.Common.{◌≡◌, ℕ, ◌-◌, Bool, true, false, ◌||◌, ◌&&◌, ◌==◌, nat_lt, ◌⊎◌, inl, inr, [], ◌∷◌, ◌++◌, length, take, get_or, refl, ap, sym, ◌∙◌, subst, arith, length-append}
use Rattle.std.specs.Char.{is_ascii_digit, is_ascii_hexdigit}
use Rattle.std.specs.List.{list_all}
use Rattle.std.proofs.Math.Seq.{take-append_seam, get_or-append_seam}
use Rattle.scan_tokens.specs.Division.{Each}
use Rattle.scan_tokens.specs.Kinds.{is_whole, has_suffix, number_kind}
use Rattle.scan_tokens.specs.Numbers.{IsWhole, IsLong, IsNumberOf}
use Rattle.scan_tokens.specs.Words.{Bytes}
use Rattle.scan_tokens.proofs.Steps.{which, both, same_number}

all-each : (p : ℕ → Bool) (xs : Bytes) → list_all p xs ≡ true → Each p xs
all-each p [] e = tt
all-each p (x ∷ xs) e = let t = both (p x) (list_all p xs) e in (t.0, all-each p xs t.1)

each-all : (p : ℕ → Bool) (xs : Bytes) → Each p xs → list_all p xs ≡ true
each-all p [] e = refl
each-all p (x ∷ xs) e = rw e.0 (each-all p xs e.1)

one_of : (m a b : ℕ) → (m == a || m == b) ≡ true → (m ≡ a) ⊎ (m ≡ b)
one_of m a b e = elim (which (m == a)) [ inl is ↦ inl (same_number m a is) | inr isnt ↦ inr (same_number m b (rw isnt at e)) ]

two_or_more : (x y : ℕ) (xs : Bytes) → (length (x ∷ y ∷ xs) == 1) ≡ false
two_or_more x y xs = grind arith

some : (x : ℕ) (xs : Bytes) → nat_lt 0 (length (x ∷ xs)) ≡ true
some x xs = grind arith

three_or_more : (x y z : ℕ) (xs : Bytes) → nat_lt 2 (length (x ∷ y ∷ z ∷ xs)) ≡ true
three_or_more x y z xs = grind arith

decimal : (b : ℕ) (bs : Bytes) → (b == 48) ≡ false → (nat_lt 0 (length (b ∷ bs)) && list_all is_ascii_digit (b ∷ bs)) ≡ true → IsWhole (b ∷ bs)
decimal b bs isnt e =
    let t = both (nat_lt 0 (length (b ∷ bs))) (list_all is_ascii_digit (b ∷ bs)) e in
    inr (inl (record { first = b; others = bs; text = refl; not_zero = isnt; digits = all-each is_ascii_digit (b ∷ bs) t.1 }))

whole-sound : (n : Bytes) → is_whole n ≡ true → IsWhole n
unfolding is_whole
whole-sound [] e = cc
whole-sound (b ∷ []) e =
    elim (which (b == 48)) [
      | inl is ↦ inl (ap (λ x. x ∷ []) (same_number b 48 is))
      | inr isnt ↦ decimal b [] isnt (rw isnt at e)
    ]
whole-sound (b ∷ m ∷ []) e =
    elim (which (b == 48)) [
      | inl is ↦ elim (which (m == 120 || m == 88)) [
        | inl mark ↦ (let f : false ≡ true = rw (is, mark) at e in cc)
        | inr none ↦ (let f = rw (is, none) at e in let g = two_or_more b m [] in cc)
      ]
      | inr isnt ↦ decimal b (m ∷ []) isnt (rw isnt at e)
    ]
whole-sound (b ∷ m ∷ d ∷ ds) e =
    elim (which (b == 48)) [
      | inl is ↦ elim (which (m == 120 || m == 88)) [
        | inl mark ↦ (let f = rw (is, mark) at e in
            let t = both (nat_lt 2 (length (b ∷ m ∷ d ∷ ds))) (list_all is_ascii_hexdigit (d ∷ ds)) f in
            inr (inr (record {
              mark = m;
              first = d;
              others = ds;
              text = ap (λ x. x ∷ m ∷ d ∷ ds) (same_number b 48 is);
              marks = one_of m 120 88 mark;
              digits = all-each is_ascii_hexdigit (d ∷ ds) t.1;
            })))
        | inr none ↦ (let f = rw (is, none) at e in let g = two_or_more b m (d ∷ ds) in cc)
      ]
      | inr isnt ↦ decimal b (m ∷ d ∷ ds) isnt (rw isnt at e)
    ]

decimal-whole : (b : ℕ) (bs : Bytes) → (b == 48) ≡ false → Each is_ascii_digit (b ∷ bs) → is_whole (b ∷ bs) ≡ true
unfolding is_whole
decimal-whole b bs isnt e = rw (isnt, some b bs, each-all is_ascii_digit (b ∷ bs) e) refl

hexadecimal-whole : (m d : ℕ) (ds : Bytes) → (m ≡ 120) ⊎ (m ≡ 88) → Each is_ascii_hexdigit (d ∷ ds) → is_whole (48 ∷ m ∷ d ∷ ds) ≡ true
unfolding is_whole
hexadecimal-whole m d ds (inl e) each = rw (e, three_or_more 48 120 d ds, each-all is_ascii_hexdigit (d ∷ ds) each) refl
hexadecimal-whole m d ds (inr e) each = rw (e, three_or_more 48 88 d ds, each-all is_ascii_hexdigit (d ∷ ds) each) refl

whole-complete : (n : Bytes) → IsWhole n → is_whole n ≡ true
unfolding is_whole
whole-complete n (inl e) = rw e refl
whole-complete n (inr (inl d)) = rw d.text (decimal-whole d.first d.others d.not_zero d.digits)
whole-complete n (inr (inr h)) = rw h.text (hexadecimal-whole h.mark h.first h.others h.marks h.digits)

-- ---- suffixes

abbrev last_of : Bytes → ℕ
last_of [] = 0
last_of (x ∷ []) = x
last_of (x ∷ y ∷ ys) = last_of (y ∷ ys)

last_of-append : (xs : Bytes) (s : ℕ) → last_of (xs ++ s ∷ []) ≡ s
last_of-append [] s = refl
last_of-append (x ∷ []) s = refl
last_of-append (x ∷ y ∷ ys) s = last_of-append (y ∷ ys) s

each-last : (p : ℕ → Bool) (x : ℕ) (xs : Bytes) → Each p (x ∷ xs) → p (last_of (x ∷ xs)) ≡ true
each-last p x [] e = e.0
each-last p x (y ∷ ys) e = each-last p y ys e.1

digit_is_hexdigit : (c : ℕ) → is_ascii_digit c ≡ true → is_ascii_hexdigit c ≡ true
digit_is_hexdigit c e = rw e refl

-- a whole number ends in a hexadecimal digit
whole-last : (n : Bytes) → IsWhole n → is_ascii_hexdigit (last_of n) ≡ true
whole-last n (inl e) = rw e refl
whole-last n (inr (inl d)) = rw d.text (digit_is_hexdigit (last_of (d.first ∷ d.others)) (each-last is_ascii_digit d.first d.others d.digits))
whole-last n (inr (inr h)) = rw h.text (each-last is_ascii_hexdigit h.first h.others h.digits)

suffix_is_no_digit : (s : ℕ) → (s ≡ 76) ⊎ (s ≡ 108) → is_ascii_hexdigit s ≡ true → ⊥
suffix_is_no_digit s (inl e) d = let P : ℕ → Type 0 = λ x. is_ascii_hexdigit x ≡ true in let f : false ≡ true = subst P e d in cc
suffix_is_no_digit s (inr e) d = let P : ℕ → Type 0 = λ x. is_ascii_hexdigit x ≡ true in let f : false ≡ true = subst P e d in cc

abbrev all_but_last : Bytes → Bytes
all_but_last [] = []
all_but_last (x ∷ []) = []
all_but_last (x ∷ y ∷ ys) = x ∷ all_but_last (y ∷ ys)

all_but_last-append : (xs : Bytes) (s : ℕ) → all_but_last (xs ++ s ∷ []) ≡ xs
all_but_last-append [] s = refl
all_but_last-append (x ∷ []) s = refl
all_but_last-append (x ∷ y ∷ ys) s = ap (λ zs. x ∷ zs) (all_but_last-append (y ∷ ys) s)

snoc : (x : ℕ) (xs : Bytes) → x ∷ xs ≡ all_but_last (x ∷ xs) ++ last_of (x ∷ xs) ∷ []
snoc x [] = refl
snoc x (y ∷ ys) = ap (λ zs. x ∷ zs) (snoc y ys)

last_place : (m : Bytes) (s : ℕ) → length (m ++ s ∷ []) - 1 ≡ length m
last_place m s = omega (arith, length-append m (s ∷ []))

suffix_is : (m : Bytes) (s : ℕ) → has_suffix (m ++ s ∷ []) ≡ (s == 76 || s == 108)
unfolding has_suffix
suffix_is m s =
    let there : get_or (m ++ s ∷ []) (length (m ++ s ∷ []) - 1) 0 ≡ s =
    ap (λ k. get_or (m ++ s ∷ []) k 0) (last_place m s) ∙ get_or-append_seam m s [] 0 in
    ap (λ x. x == 76 || x == 108) there

taken_is : (m : Bytes) (s : ℕ) → take (length (m ++ s ∷ []) - 1) (m ++ s ∷ []) ≡ m
taken_is m s = ap (λ k. take k (m ++ s ∷ [])) (last_place m s) ∙ take-append_seam m (s ∷ [])

no_long : (n : Bytes) → ((m : Bytes) (s : ℕ) → n ≡ m ++ s ∷ [] → (s ≡ 76) ⊎ (s ≡ 108) → IsWhole m → ⊥) → IsLong n → ⊥
no_long n f l = f l.whole l.suffix l.text l.suffixes l.proper

kind_of_parts : (m : Bytes) (s : ℕ) → IsNumberOf (number_kind (m ++ s ∷ [])) (m ++ s ∷ [])
unfolding number_kind
kind_of_parts m s =
    elim (which (s == 76 || s == 108)) [
      | inl is ↦ elim (which (is_whole m)) [
        | inl whole ↦ rw (suffix_is m s, is, taken_is m s, whole)
            (record { whole = m; suffix = s; text = refl; suffixes = one_of s 76 108 is; proper = whole-sound m whole })
        | inr other ↦ rw (suffix_is m s, is, taken_is m s, other) (
          λ w. suffix_is_no_digit s (one_of s 76 108 is) (rw last_of-append at (whole-last (m ++ s ∷ []) w)),
          no_long (m ++ s ∷ []) (λ k t e f w. (
              let same : m ≡ k = sym (all_but_last-append m s) ∙ ap all_but_last e ∙ all_but_last-append k t in
              let g : is_whole m ≡ true = ap is_whole same ∙ whole-complete k w in cc)),
        )
      ]
      | inr isnt ↦ elim (which (is_whole (m ++ s ∷ []))) [
        | inl whole ↦ rw (suffix_is m s, isnt, whole) (whole-sound (m ++ s ∷ []) whole)
        | inr other ↦ rw (suffix_is m s, isnt, other) (
          λ w. (let g = whole-complete (m ++ s ∷ []) w in cc),
          no_long (m ++ s ∷ []) (λ k t e f w. no_suffix isnt (suffix_same k t e f)),
        )
      ]
    ] where
      suffix_same : (k : Bytes) (t : ℕ) → m ++ s ∷ [] ≡ k ++ t ∷ [] → (t ≡ 76) ⊎ (t ≡ 108) → (s ≡ 76) ⊎ (s ≡ 108)
      suffix_same k t e f =
          let same : s ≡ t = sym (last_of-append m s) ∙ ap last_of e ∙ last_of-append k t in
          elim f [ inl g ↦ inl (same ∙ g) | inr g ↦ inr (same ∙ g) ]

      no_suffix : (s == 76 || s == 108) ≡ false → (s ≡ 76) ⊎ (s ≡ 108) → ⊥
      no_suffix isnt (inl e) = let P : ℕ → Type 0 = λ x. (x == 76 || x == 108) ≡ false in let g : true ≡ false = subst P e isnt in cc
      no_suffix isnt (inr e) = let P : ℕ → Type 0 = λ x. (x == 76 || x == 108) ≡ false in let g : true ≡ false = subst P e isnt in cc

not_empty : (m : Bytes) (s : ℕ) → [] ≡ m ++ s ∷ [] → ⊥
not_empty [] s e = cc
not_empty (x ∷ m) s e = cc

nothing_whole : IsWhole [] → ⊥
unfolding is_whole
nothing_whole w = let g : false ≡ true = whole-complete [] w in cc

pub number_kind-is : (n : Bytes) → IsNumberOf (number_kind n) n
unfolding number_kind has_suffix is_whole
number_kind-is [] = (nothing_whole, no_long [] (λ m s e f w. not_empty m s e))
number_kind-is (x ∷ xs) =
    let P : Bytes → Type 0 = λ n. IsNumberOf (number_kind n) n in
    subst P (sym (snoc x xs)) (kind_of_parts (all_but_last (x ∷ xs)) (last_of (x ∷ xs)))
