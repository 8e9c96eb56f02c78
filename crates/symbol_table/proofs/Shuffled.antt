-- Filters and look-ups of lists with the same elements, and lists in strict order.
use Rattle.std.proofs.Common.{◌≡◌, ℕ, zero, suc, ◌+◌, ◌-◌, ◌<◌, Bool, true, false, ◌||◌, ◌⊎◌, ⊎_elim, List, [], ◌∷◌, ◌++◌, length, get_or, set, Some, None, Contains, refl, sym, ap, subst, ◌∙◌, append_assoc, arith}
use Rattle.std.specs.List.{AllPairs, filter, find, list_any, swap}
use Rattle.std.specs.List.Sorted.{IsPermutation, IsStrictlySortedBy}
use Rattle.std.specs.declared.cmp.Ordering.{Ordering}
use Rattle.std.specs.declared.cmp.Ordering.TheVariants.{Less}
use Rattle.std.proofs.lemmas.Bool.{false≢true, true≢false, cases_order, cond-true, cond-false, cases_Bool}
use Rattle.std.proofs.lemmas.List.{length-append, get_or_at, set_at, get_or_default, set_comm, set-set, set-get_or}
use Rattle.std.proofs.lemmas.List.Elements.{recursion_from_All, filter-append, Contains-get_or, Contains-append_right}
use Rattle.std.proofs.lemmas.List.Sorted.{IsPermutation-refl, IsPermutation-trans, IsPermutation-keeps, IsPermutation-append_left, IsPermutation-append_right, IsPermutation-append_comm, Contains-permutation, list_any-IsPermutation}

-- ---- an exchange of two elements

swap-is : {X : Type 0} (l : List X) (i j : ℕ) (d : X) → i < length l → j < length l → swap l i j ≡ set (set l i (get_or l j d)) j (get_or l i d)
swap-is [] i j d p q = absurd (omega arith)
swap-is (e ∷ ys) i j d p q = λ t. set (set (e ∷ ys) i (get_or_default (e ∷ ys) j e d q t)) j (get_or_default (e ∷ ys) i e d p t)

record Cut {X : Type 0} (l : List X) (i : ℕ) : Type 0 where
  before : List X
  one : X
  behind : List X
  whole : l ≡ before ++ one ∷ behind
  long : length before ≡ i

cut : {X : Type 0} (l : List X) (i : ℕ) → i < length l → Cut l i
cut [] i h = absurd (omega arith)
cut (x ∷ xs) zero h = record { before = []; one = x; behind = xs; whole = refl; long = refl }
cut (x ∷ xs) (suc i) h =
    let rest = cut xs i (omega arith) in
    record { before = x ∷ rest.before; one = rest.one; behind = rest.behind; whole = ap (λ l. x ∷ l) rest.whole; long = ap suc rest.long }

exchanged : {X : Type 0} (A B C : List X) (x y : X) (i j : ℕ) → length A ≡ i → length A + 1 + length B ≡ j
    → swap (A ++ x ∷ (B ++ y ∷ C)) i j ≡ A ++ y ∷ (B ++ x ∷ C)
exchanged {X} A B C x y i j p q =
    let l : List X = A ++ x ∷ (B ++ y ∷ C) in
    let front : (z : X) → length (A ++ z ∷ B) ≡ j = λ z. omega (arith, length-append A (z ∷ B)) in
    let again : (z : X) (w : X) → A ++ z ∷ (B ++ w ∷ C) ≡ (A ++ z ∷ B) ++ w ∷ C = λ z w. sym (append_assoc A (z ∷ B) (w ∷ C)) in
    let second : get_or l j x ≡ y = ap (λ m. get_or m j x) (again x y) ∙ get_or_at (A ++ x ∷ B) y C x j (front x) in
    swap-is l i j x (omega (arith, length-append A (x ∷ (B ++ y ∷ C)))) (omega (arith, length-append A (x ∷ (B ++ y ∷ C)), length-append B (y ∷ C)))
    ∙ (λ t. set (set l i (second t)) j (get_or_at A x (B ++ y ∷ C) x i p t))
    ∙ ap (λ m. set m j x) (set_at A x (B ++ y ∷ C) y i p ∙ again y y)
    ∙ set_at (A ++ y ∷ B) y C x j (front y)
    ∙ sym (again y x)

turned : {X : Type 0} (p q r : List X) → IsPermutation (p ++ (q ++ r)) (r ++ (q ++ p))
turned p q r =
    IsPermutation-trans (p ++ (q ++ r)) ((q ++ r) ++ p) (r ++ (q ++ p)) (IsPermutation-append_comm p (q ++ r))
    (IsPermutation-trans ((q ++ r) ++ p) ((r ++ q) ++ p) (r ++ (q ++ p)) (IsPermutation-append_left p (q ++ r) (r ++ q) (IsPermutation-append_comm q r))
    (subst (IsPermutation ((r ++ q) ++ p)) (append_assoc r q p) (IsPermutation-refl ((r ++ q) ++ p))))

module _ {X : Type 0} (p : X → Bool) where
  one_of : X → List X
  one_of x = filter p (x ∷ [])

  three : (A B C : List X) (x y : X) → filter p (A ++ x ∷ (B ++ y ∷ C)) ≡ filter p A ++ ((one_of x ++ (filter p B ++ one_of y)) ++ filter p C)
  unfolding one_of
  three A B C x y =
      filter-append p A (x ∷ (B ++ y ∷ C))
      ∙ ap (λ l. filter p A ++ l) (filter-append p (x ∷ []) (B ++ y ∷ C)
      ∙ ap (λ l. filter p (x ∷ []) ++ l) (filter-append p B (y ∷ C) ∙ ap (λ l. filter p B ++ l) (filter-append p (y ∷ []) C))
      ∙ ap (λ l. filter p (x ∷ []) ++ l) (sym (append_assoc (filter p B) (filter p (y ∷ [])) (filter p C)))
      ∙ sym (append_assoc (filter p (x ∷ [])) (filter p B ++ filter p (y ∷ [])) (filter p C)))

  parts_turn : (A B C : List X) (x y : X) → IsPermutation (filter p (A ++ x ∷ (B ++ y ∷ C))) (filter p (A ++ y ∷ (B ++ x ∷ C)))
  parts_turn A B C x y =
      subst (λ l. IsPermutation l (filter p (A ++ y ∷ (B ++ x ∷ C)))) (sym (three A B C x y))
      (subst (IsPermutation (filter p A ++ ((one_of x ++ (filter p B ++ one_of y)) ++ filter p C))) (sym (three A B C y x))
      (IsPermutation-append_right (filter p A) ((one_of x ++ (filter p B ++ one_of y)) ++ filter p C) ((one_of y ++ (filter p B ++ one_of x)) ++ filter p C)
      (IsPermutation-append_left (filter p C) (one_of x ++ (filter p B ++ one_of y)) (one_of y ++ (filter p B ++ one_of x)) (turned (one_of x) (filter p B) (one_of y)))))

  swap_cut : (A B C : List X) (x y : X) (l : List X) (i j : ℕ) → l ≡ A ++ x ∷ (B ++ y ∷ C) → length A ≡ i → length A + 1 + length B ≡ j
      → IsPermutation (filter p l) (filter p (swap l i j))
  swap_cut A B C x y l i j whole low high =
      subst (λ m. IsPermutation (filter p m) (filter p (swap m i j))) (sym whole)
      (subst (λ m. IsPermutation (filter p (A ++ x ∷ (B ++ y ∷ C))) (filter p m)) (sym (exchanged A B C x y i j low high)) (parts_turn A B C x y))

  swap_both : (l : List X) (i j : ℕ) (one : Cut l i) (two : Cut one.behind (j - i - 1)) → i < j → IsPermutation (filter p l) (filter p (swap l i j))
  swap_both l i j one two h =
      swap_cut one.before two.before two.behind one.one two.one l i j (one.whole ∙ ap (λ r. one.before ++ one.one ∷ r) two.whole) one.long
      (omega (arith, h, one.long, two.long))

  far : (l : List X) (i j : ℕ) (one : Cut l i) → i < j → j < length l → j - i - 1 < length one.behind
  far l i j one h k = omega (arith, h, k, one.long, ap length one.whole, length-append one.before (one.one ∷ one.behind))

  swap_up : (l : List X) (i j : ℕ) → i < j → j < length l → IsPermutation (filter p l) (filter p (swap l i j))
  swap_up l i j h k = swap_from l i j (cut l i (omega arith)) h k
    where
      swap_from : (l : List X) (i j : ℕ) (one : Cut l i) → i < j → j < length l → IsPermutation (filter p l) (filter p (swap l i j))
      swap_from l i j one h k = swap_both l i j one (cut one.behind (j - i - 1) (far l i j one h k)) h

  swap_back : (l : List X) (i j : ℕ) (d : X) → i < length l → j < length l → (i ≡ j → ⊥) → swap l i j ≡ swap l j i
  swap_back l i j d h k apart = swap-is l i j d h k ∙ set_comm l i j (get_or l j d) (get_or l i d) apart ∙ sym (swap-is l j i d k h)

  swap_filter : (l : List X) (i j : ℕ) → i < length l → j < length l → IsPermutation (filter p l) (filter p (swap l i j))
  swap_filter l i j h k =
      let d : X = (cut l i h).one in
      ⊎_elim
      (λ (e : i ≡ j).
      let same : swap l i j ≡ l =
      swap-is l i j d h k ∙ (λ t. set (set l i (get_or l (sym e t) d)) (sym e t) (get_or l i d)) ∙ set-set l i (get_or l i d) (get_or l i d) ∙ set-get_or l i d in
      subst (λ m. IsPermutation (filter p l) (filter p m)) (sym same) (IsPermutation-refl (filter p l)))
      (λ (n : (i < j) ⊎ (j < i)). ⊎_elim
      (λ (up : i < j). swap_up l i j up k)
      (λ (down : j < i).
      subst (λ m. IsPermutation (filter p l) (filter p m)) (sym (swap_back l i j d h k (λ e. omega (arith, down, e)))) (swap_up l j i down h))
      n)
      (cases_order i j)

  pub IsPermutation-filter : (xs ys : List X) → IsPermutation xs ys → IsPermutation (filter p xs) (filter p ys)
  IsPermutation-filter xs ys perm =
      IsPermutation-keeps xs (λ l. IsPermutation (filter p xs) (filter p l)) (IsPermutation-refl (filter p xs))
      (λ l i j h k so. IsPermutation-trans (filter p xs) (filter p l) (filter p (swap l i j)) so (swap_filter l i j h k)) ys perm

  -- ---- the first that passes

  record Finds (xs : List X) : Type 0 where
    found : X
    is : find p xs ≡ Some found
    there : Contains xs found
    passes : p found ≡ true

  finds_first : (x : X) (xs : List X) (b : Bool) → p x ≡ b → (b ≡ false → Finds xs) → Finds (x ∷ xs)
  finds_first x xs true e rest =
      record { found = x; is = cond-true (p x) (Some x) (find p xs) e; there = Contains-get_or (x ∷ xs) 0 x (omega arith); passes = e }
  finds_first x xs false e rest =
      let more = rest refl in
      record { found = more.found; is = cond-false (p x) (Some x) (find p xs) e ∙ more.is; there = Contains-append_right (x ∷ []) xs more.found more.there; passes = more.passes }

  finds : (xs : List X) → list_any p xs ≡ true → Finds xs
  finds [] h = absurd (false≢true h)
  finds (x ∷ xs) h = finds_first x xs (p x) refl (λ e. finds xs (sym (ap (λ b. b || list_any p xs) e) ∙ h))

  none_first : (x : X) (xs : List X) (b : Bool) → p x ≡ b → (b || list_any p xs) ≡ false → (b ≡ false → find p xs ≡ None) → find p (x ∷ xs) ≡ None
  none_first x xs true e h rest = absurd (true≢false h)
  none_first x xs false e h rest = cond-false (p x) (Some x) (find p xs) e ∙ rest refl

  finds_none : (xs : List X) → list_any p xs ≡ false → find p xs ≡ None
  finds_none [] h = refl
  finds_none (x ∷ xs) h = none_first x xs (p x) refl h (λ e. finds_none xs (sym (ap (λ b. b || list_any p xs) e) ∙ h))

  -- where one element alone passes, lists with the same elements find the same
  pub find-IsPermutation : (xs ys : List X) → IsPermutation xs ys → ((x y : X) → Contains ys x → Contains ys y → p x ≡ true → p y ≡ true → x ≡ y) → find p xs ≡ find p ys
  find-IsPermutation xs ys perm alone = ⊎_elim
      (λ (h : list_any p xs ≡ true).
      let one = finds xs h in
      let other = finds ys (sym (list_any-IsPermutation p xs ys perm) ∙ h) in
      one.is ∙ ap Some (alone one.found other.found (Contains-permutation xs ys one.found perm one.there) other.there one.passes other.passes) ∙ sym other.is)
      (λ (h : list_any p xs ≡ false). finds_none xs h ∙ sym (finds_none ys (sym (list_any-IsPermutation p xs ys perm) ∙ h)))
      (cases_Bool (list_any p xs))

-- ---- strict order

pub strictly : {X : Type 0} (c : X → X → Ordering) (xs : List X) → AllPairs (λ x y. c x y ≡ Less) xs → IsStrictlySortedBy c xs
unfolding IsStrictlySortedBy
strictly c [] all = tt
strictly c (x ∷ xs) all = (
  recursion_from_All (λ y. c x y ≡ Less) xs (λ k d h. all 0 (suc k) d (omega arith) (omega arith)),
  strictly c xs (λ i j d h k. all (suc i) (suc j) d (omega arith) (omega arith)),
)
