-- Where an element of a list stands.
use Rattle.std.proofs.Common.{◌≡◌, ℕ, suc, ◌+◌, ◌==◌, cond, List, [], ◌∷◌, ◌++◌, map, length, refl, sym, ap, ◌∙◌, arith, append-nil, length-append}
use Rattle.std.proofs.lemmas.Bool.{eq-eqb}
use Rattle.std.proofs.lemmas.List.Elements.{filter-append}
use Rattle.std.proofs.lemmas.List.{append_cancel_left}
use Rattle.counting_word.specs.declared.view.Entry.{Entry}
use Rattle.counting_word.specs.History.{entries_by}

-- an element stands in a list behind these
pub record IsBehind {X : Type 0} (xs front : List X) (x : X) : Type 0 where
  pub back : List X
  pub whole : xs ≡ front ++ x ∷ back

-- It stands in the first of two lists, where it is not in the second.
pub in_first : {X : Type 0} (xs rest front back : List X) (x : X) → xs ++ rest ≡ front ++ x ∷ back → ((f b : List X) → rest ≡ f ++ x ∷ b → ⊥) → IsBehind xs front x
in_first [] rest front back x h none = absurd (none front back h)
in_first (y ∷ xs) rest [] back x h none = let same : y ≡ x = cc in record { back = xs; whole = ap (λ z. z ∷ xs) same }
in_first (y ∷ xs) rest (z ∷ front) back x h none =
    let same : y ≡ z = cc in
    let tail : xs ++ rest ≡ front ++ x ∷ back = cc in
    let more = in_first xs rest front back x tail none in
    record { back = more.back; whole = λ i. same i ∷ more.whole i }

-- It stands in the second, where it is not in the first.
pub record IsInSecond {X : Type 0} (xs rest front back : List X) (x : X) : Type 0 where
  pub front' : List X
  pub before : front ≡ xs ++ front'
  pub whole : rest ≡ front' ++ x ∷ back

pub in_second : {X : Type 0} (xs rest front back : List X) (x : X) → xs ++ rest ≡ front ++ x ∷ back → ((f b : List X) → xs ≡ f ++ x ∷ b → ⊥) → IsInSecond xs rest front back x
in_second [] rest front back x h none = record { front' = front; before = refl; whole = h }
in_second (y ∷ xs) rest [] back x h none = let same : y ≡ x = cc in absurd (none [] xs (ap (λ z. z ∷ xs) same))
in_second (y ∷ xs) rest (z ∷ front) back x h none =
    let same : y ≡ z = cc in
    let tail : xs ++ rest ≡ front ++ x ∷ back = cc in
    let more = in_second xs rest front back x tail (λ f b e. none (y ∷ f) b (ap (λ l. y ∷ l) e)) in
    record { front' = more.front'; before = λ i. sym same i ∷ more.before i; whole = more.whole }

-- What stands where in a list of values.
pub record IsValueAt {X Y : Type 0} (v : X → Y) (xs : List X) (before behind : List Y) (y : Y) : Type 0 where
  pub front : List X
  pub x : X
  pub back : List X
  pub whole : xs ≡ front ++ x ∷ back
  pub is_front : map v front ≡ before
  pub is_x : v x ≡ y
  pub is_back : map v back ≡ behind

pub value_at : {X Y : Type 0} (v : X → Y) (xs : List X) (before behind : List Y) (y : Y) → map v xs ≡ before ++ y ∷ behind → IsValueAt v xs before behind y
value_at v [] [] behind y h = cc
value_at v [] (z ∷ before) behind y h = cc
value_at v (x ∷ xs) [] behind y h =
    let same : v x ≡ y = cc in
    let rest : map v xs ≡ behind = cc in
    record { front = []; x = x; back = xs; whole = refl; is_front = refl; is_x = same; is_back = rest }
value_at v (x ∷ xs) (z ∷ before) behind y h =
    let same : v x ≡ z = cc in
    let tail : map v xs ≡ before ++ y ∷ behind = cc in
    let more = value_at v xs before behind y tail in
    record {
      front = x ∷ more.front;
      x = more.x;
      back = more.back;
      whole = ap (λ l. x ∷ l) more.whole;
      is_front = λ i. same i ∷ more.is_front i;
      is_x = more.is_x;
      is_back = more.is_back;
    }

-- ---- entries by their authors

-- none of an author stands in a list that has none of them
pub none_of : (n : ℕ) (entries : List Entry) (front back : List Entry) (entry : Entry) → entries_by n entries ≡ [] → entries ≡ front ++ entry ∷ back → entry.author ≡ n → ⊥
none_of n entries front back entry none whole mine =
    some (entries_by n front) (sym none ∙ ap (entries_by n) whole ∙ filter-append (λ (e : Entry). e.author == n) front (entry ∷ back)
    ∙ ap (λ b. entries_by n front ++ cond b (entry ∷ entries_by n back) (entries_by n back)) (eq-eqb entry.author n mine))
  where
    some : (xs : List Entry) → [] ≡ xs ++ entry ∷ entries_by n back → ⊥
    some [] h = cc
    some (x ∷ xs) h = cc

-- the rest of a list has none of an author whose entries are all in its beginning
pub rest_has_none : (n : ℕ) (front back whole : List Entry) → whole ≡ front ++ back → entries_by n front ≡ entries_by n whole → entries_by n back ≡ []
rest_has_none n front back whole is same =
    sym
    (append_cancel_left (entries_by n front) [] (entries_by n back)
    (append-nil (entries_by n front) ∙ same ∙ ap (entries_by n) is ∙ filter-append (λ (e : Entry). e.author == n) front back))

-- and its beginning has none where they are all in the rest
pub first_has_none : (n : ℕ) (front back whole : List Entry) → whole ≡ front ++ back → entries_by n whole ≡ entries_by n back → entries_by n front ≡ []
first_has_none n front back whole is same = by (entries_by n front) (sym same ∙ ap (entries_by n) is ∙ filter-append (λ (e : Entry). e.author == n) front back)
  where
    by : (xs : List Entry) → entries_by n back ≡ xs ++ entries_by n back → xs ≡ []
    by [] h = refl
    by (x ∷ xs) h = absurd (longer (length (entries_by n back)) (length xs) (ap length h ∙ length-append (x ∷ xs) (entries_by n back)))
      where
        longer : (a b : ℕ) → a ≡ suc b + a → ⊥
        longer a b e = omega (arith, e)
