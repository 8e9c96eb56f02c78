-- What one text more changes.
use Rattle.std.proofs.Common.{◌≡◌, ℕ, ◌+◌, ◌-◌, ◌*◌, max, Bool, true, false, ◌||◌, cond, if◌then◌else◌, List, [], ◌∷◌, ◌++◌, length, Option, Some, None, is_some, unwrap_or, refl, sym, ap, ◌∙◌, subst, arith, zero-add, add-zero, fold}
use Rattle.std.specs.List.{list_any, sum_by, count_by}
use Rattle.std.specs.Map.{update}
use Rattle.std.specs.Str.{bytes_eq}
use Rattle.std.proofs.Math.Bool.{or-false}
use Rattle.std.proofs.lemmas.Bool.{false_from_ne_true}
use Rattle.std.proofs.lemmas.Grind.{fold-append}
use Rattle.std.proofs.lemmas.List.{length_push}
use Rattle.std.proofs.lemmas.List.Folds.{list_any-append}
use Rattle.std.proofs.lemmas.List.Sums.{sum_by-append, sum_by-cons}
use Rattle.std.proofs.lemmas.Slice.Eq.{bytes_eq-Decides}
use Rattle.ask_history.specs.Sources.{Bytes}
use Rattle.work_queue.specs.declared.usage.Usage.{Usage}
use Rattle.work_queue.specs.Reloads.{text_bytes, longer, length_for, longest, with_name, names_of, map_bytes, usage_of, with_text}

pub longer-none : (a : Option ℕ) → longer a None ≡ a
longer-none None = refl
longer-none (Some a) = refl

pub longer_assoc : (a b c : Option ℕ) → longer a (longer b c) ≡ longer (longer a b) c
longer_assoc None b c = refl
longer_assoc (Some a) None c = refl
longer_assoc (Some a) (Some b) None = refl
longer_assoc (Some a) (Some b) (Some c) = ap Some (let e : max a (max b c) ≡ max (max a b) c = omega arith in e)

pub longest-append : (front pairs : List (Bytes × Bytes)) (name : Bytes) → longest (front ++ pairs) name ≡ longer (longest front name) (longest pairs name)
longest-append [] pairs name = refl
longest-append (pair ∷ front) pairs name =
    ap (longer (length_for pair name)) (longest-append front pairs name) ∙ longer_assoc (length_for pair name) (longest front name) (longest pairs name)

pub longest-push : (pairs : List (Bytes × Bytes)) (pair : Bytes × Bytes) (name : Bytes)
    → longest (pairs ++ pair ∷ []) name ≡ longer (longest pairs name) (length_for pair name)
longest-push pairs pair name = longest-append pairs (pair ∷ []) name ∙ ap (longer (longest pairs name)) (longer-none (length_for pair name))

pub bytes_eq_refl : (name : Bytes) → bytes_eq name name ≡ true
bytes_eq_refl name = (bytes_eq-Decides name name).1 refl

pub bytes_eq_comm : (a b : Bytes) → bytes_eq a b ≡ bytes_eq b a
bytes_eq_comm a b = by (bytes_eq a b) refl
  where
    by : (t : Bool) → bytes_eq a b ≡ t → t ≡ bytes_eq b a
    by true h = sym ((bytes_eq-Decides b a).1 (sym ((bytes_eq-Decides a b).0 h)))
    by false h = sym (false_from_ne_true (bytes_eq b a) (λ k. let e : bytes_eq a b ≡ true = (bytes_eq-Decides a b).1 (sym ((bytes_eq-Decides b a).0 k)) in cc))

-- a name that is put in is there, and no other
list_any-with_name : (name : Bytes) (names : List Bytes) (pair : Bytes × Bytes)
    → list_any (bytes_eq name) (with_name names pair) ≡ (list_any (bytes_eq name) names || bytes_eq pair.0 name)
list_any-with_name name names pair = by (list_any (bytes_eq pair.0) names) refl
  where
    there : bytes_eq pair.0 name ≡ true → list_any (bytes_eq pair.0) names ≡ true → list_any (bytes_eq name) names ≡ true
    there same h = subst (λ n. list_any (bytes_eq n) names ≡ true) ((bytes_eq-Decides pair.0 name).0 same) h

    kept : (t u : Bool) → (u ≡ true → t ≡ true) → t ≡ (t || u)
    kept true u h = refl
    kept false true h = h refl
    kept false false h = refl

    by : (b : Bool) → list_any (bytes_eq pair.0) names ≡ b
        → list_any (bytes_eq name) (if b then names else names ++ pair.0 ∷ []) ≡ (list_any (bytes_eq name) names || bytes_eq pair.0 name)
    by true h = kept (list_any (bytes_eq name) names) (bytes_eq pair.0 name) (λ same. there same h)
    by false h = list_any-append (bytes_eq name) names (pair.0 ∷ [])
        ∙ ap (λ b. list_any (bytes_eq name) names || b) (or-false (bytes_eq name pair.0) ∙ bytes_eq_comm name pair.0)

pub is_some-longer : (a b : Option ℕ) → is_some (longer a b) ≡ (is_some a || is_some b)
is_some-longer None b = refl
is_some-longer (Some a) None = refl
is_some-longer (Some a) (Some b) = refl

is_some-length_for : (pair : Bytes × Bytes) (name : Bytes) → is_some (length_for pair name) ≡ bytes_eq pair.0 name
is_some-length_for pair name = elim (bytes_eq pair.0 name) as (λ b. is_some (if b then Some (length pair.1) else None) ≡ b) [ true ↦ refl | false ↦ refl ]

or_assoc : (a b c : Bool) → ((a || b) || c) ≡ (a || (b || c))
or_assoc true b c = refl
or_assoc false b c = refl

pub list_any-fold : (name : Bytes) (names : List Bytes) (pairs : List (Bytes × Bytes))
    → list_any (bytes_eq name) (fold with_name names pairs) ≡ (list_any (bytes_eq name) names || is_some (longest pairs name))
list_any-fold name names [] = sym (or-false (list_any (bytes_eq name) names))
list_any-fold name names (pair ∷ pairs) =
    list_any-fold name (with_name names pair) pairs
    ∙ ap (λ b. b || is_some (longest pairs name)) (list_any-with_name name names pair)
    ∙ or_assoc (list_any (bytes_eq name) names) (bytes_eq pair.0 name) (is_some (longest pairs name))
    ∙ ap (λ b. list_any (bytes_eq name) names || b)
    (ap (λ b. b || is_some (longest pairs name)) (sym (is_some-length_for pair name)) ∙ sym (is_some-longer (length_for pair name) (longest pairs name)))

pub list_any-names_of : (name : Bytes) (pairs : List (Bytes × Bytes)) → list_any (bytes_eq name) (names_of pairs) ≡ is_some (longest pairs name)
list_any-names_of name pairs = list_any-fold name [] pairs

names_of-push : (pairs : List (Bytes × Bytes)) (pair : Bytes × Bytes) → names_of (pairs ++ pair ∷ []) ≡ with_name (names_of pairs) pair
names_of-push pairs pair = fold-append with_name [] pairs (pair ∷ [])

length-with_name : (names : List Bytes) (pair : Bytes × Bytes)
    → length (with_name names pair) ≡ length names + (if list_any (bytes_eq pair.0) names then 0 else 1)
length-with_name names pair =
    elim (list_any (bytes_eq pair.0) names) as (λ b. length (if b then names else names ++ pair.0 ∷ []) ≡ length names + (if b then 0 else 1))
    [ true ↦ sym (add-zero (length names)) | false ↦ length_push names pair.0 ]

-- no name stands twice
Once : List Bytes → Type 0
Once names = (name : Bytes) → count_by (bytes_eq name) names ≡ cond (list_any (bytes_eq name) names) 1 0

count_by-push : (test : Bytes → Bool) (names : List Bytes) (name : Bytes) → count_by test (names ++ name ∷ []) ≡ count_by test names + cond (test name) 1 0
count_by-push test names name =
    sum_by-append (λ n. cond (test n) 1 0) names (name ∷ []) ∙ ap (λ n. count_by test names + n) (zero-add (cond (test name) 1 0))

once-with_name : (names : List Bytes) (pair : Bytes × Bytes) → Once names → Once (with_name names pair)
unfolding Once
once-with_name names pair once = by (list_any (bytes_eq pair.0) names) refl
  where
    pushed : list_any (bytes_eq pair.0) names ≡ false → (name : Bytes) → (b : Bool) → bytes_eq name pair.0 ≡ b
        → count_by (bytes_eq name) names + cond b 1 0 ≡ cond (list_any (bytes_eq name) names || b) 1 0
    pushed absent name true same =
        let no : list_any (bytes_eq name) names ≡ false = subst (λ n. list_any (bytes_eq n) names ≡ false) (sym ((bytes_eq-Decides name pair.0).0 same)) absent in
        ap (λ n. n + 1) (once name ∙ ap (λ b. cond b 1 0) no) ∙ sym (ap (λ b. cond (b || true) 1 0) no)
    pushed absent name false other = add-zero (count_by (bytes_eq name) names) ∙ once name ∙ ap (λ b. cond b 1 0) (sym (or-false (list_any (bytes_eq name) names)))

    by : (b : Bool) → list_any (bytes_eq pair.0) names ≡ b → (name : Bytes)
        → count_by (bytes_eq name) (if b then names else names ++ pair.0 ∷ []) ≡ cond (list_any (bytes_eq name) (if b then names else names ++ pair.0 ∷ [])) 1 0
    by true h name = once name
    by false h name =
        count_by-push (bytes_eq name) names pair.0 ∙ pushed h name (bytes_eq name pair.0) refl
        ∙ ap (λ b. cond b 1 0) (sym (list_any-append (bytes_eq name) names (pair.0 ∷ []) ∙ ap (λ b. list_any (bytes_eq name) names || b) (or-false (bytes_eq name pair.0))))

once-fold : (names : List Bytes) (pairs : List (Bytes × Bytes)) → Once names → Once (fold with_name names pairs)
once-fold names [] once = once
once-fold names (pair ∷ pairs) once = once-fold (with_name names pair) pairs (once-with_name names pair once)

once-names_of : (pairs : List (Bytes × Bytes)) (name : Bytes) → count_by (bytes_eq name) (names_of pairs) ≡ cond (list_any (bytes_eq name) (names_of pairs)) 1 0
unfolding Once
once-names_of pairs = once-fold [] pairs (λ name. refl)

-- a sum of terms of which those of one name grew
sum_by-grown : (f g : Bytes → ℕ) (name : Bytes) (more : ℕ) → ((n : Bytes) → g n ≡ f n + cond (bytes_eq name n) more 0) → (names : List Bytes)
    → sum_by g names ≡ sum_by f names + count_by (bytes_eq name) names * more
sum_by-grown f g name more each [] = let e : 0 ≡ 0 + 0 * more = omega arith in e
sum_by-grown f g name more each (n ∷ names) =
    let rest = sum_by-grown f g name more each names in
    let here = each n in
    let fs = sum_by-cons f n names in
    let gs = sum_by-cons g n names in
    let counts = sum_by-cons (λ m. cond (bytes_eq name m) 1 0) n names in
    grown (bytes_eq name n) (sum_by g (n ∷ names)) (sum_by f (n ∷ names)) (count_by (bytes_eq name) (n ∷ names)) (g n) (f n) (sum_by g names) (sum_by f names) (count_by (bytes_eq name) names) more gs fs counts here rest
  where
    grown : (b : Bool) (gs fs cs g f gr fr cr more : ℕ) → gs ≡ g + gr → fs ≡ f + fr → cs ≡ cond b 1 0 + cr → g ≡ f + cond b more 0 → gr ≡ fr + cr * more → gs ≡ fs + cs * more
    grown true gs fs cs g f gr fr cr more a b c d e = let k : cs * more ≡ more + cr * more = ap (λ n. n * more) c ∙ (let m : (1 + cr) * more ≡ more + cr * more = omega arith in m) in omega arith
    grown false gs fs cs g f gr fr cr more a b c d e = let k : cs * more ≡ cr * more = ap (λ n. n * more) (c ∙ zero-add cr) in omega arith

map_bytes-push : (pairs : List (Bytes × Bytes)) (pair : Bytes × Bytes)
    → map_bytes (pairs ++ pair ∷ []) ≡ map_bytes pairs + (length pair.1 - unwrap_or (longest pairs pair.0) 0)
map_bytes-push pairs pair = ap (sum_by after) (names_of-push pairs pair) ∙ by (list_any (bytes_eq pair.0) names) refl
  where
    names : List Bytes
    names = names_of pairs

    before : Bytes → ℕ
    before name = unwrap_or (longest pairs name) 0

    after : Bytes → ℕ
    after name = unwrap_or (longest (pairs ++ pair ∷ []) name) 0

    more : ℕ
    more = length pair.1 - unwrap_or (longest pairs pair.0) 0

    grows : (o : Option ℕ) (len : ℕ) → unwrap_or (longer o (Some len)) 0 ≡ unwrap_or o 0 + (len - unwrap_or o 0)
    grows None len = omega arith
    grows (Some c) len = let e : max c len ≡ c + (len - c) = omega arith in e

    each : (name : Bytes) → after name ≡ before name + cond (bytes_eq pair.0 name) more 0
    each name = ap (λ o. unwrap_or o 0) (longest-push pairs pair name) ∙ at (bytes_eq pair.0 name) refl
      where
        at : (b : Bool) → bytes_eq pair.0 name ≡ b → unwrap_or (longer (longest pairs name) (if b then Some (length pair.1) else None)) 0 ≡ before name + cond b more 0
        at true same =
            grows (longest pairs name) (length pair.1)
            ∙ ap (λ n. before name + (length pair.1 - unwrap_or (longest pairs n) 0)) (sym ((bytes_eq-Decides pair.0 name).0 same))
        at false other = ap (λ o. unwrap_or o 0) (longer-none (longest pairs name)) ∙ sym (add-zero (before name))

    sums : sum_by after names ≡ sum_by before names + count_by (bytes_eq pair.0) names * more
    sums = sum_by-grown before after pair.0 more each names

    none : is_some (longest pairs pair.0) ≡ false → before pair.0 ≡ 0
    none h = by_none (longest pairs pair.0) h
      where
        by_none : (o : Option ℕ) → is_some o ≡ false → unwrap_or o 0 ≡ 0
        by_none None h = refl
        by_none (Some c) h = cc

    by : (b : Bool) → list_any (bytes_eq pair.0) names ≡ b → sum_by after (if b then names else names ++ pair.0 ∷ []) ≡ sum_by before names + more
    by true there =
        let one : count_by (bytes_eq pair.0) names ≡ 1 = once-names_of pairs pair.0 ∙ ap (λ b. cond b 1 0) there in
        sums ∙ ap (λ n. sum_by before names + n * more) one ∙ (let e : sum_by before names + 1 * more ≡ sum_by before names + more = omega arith in e)
    by false absent =
        let zero : count_by (bytes_eq pair.0) names ≡ 0 = once-names_of pairs pair.0 ∙ ap (λ b. cond b 1 0) absent in
        let kept : sum_by after names ≡ sum_by before names = sums ∙ ap (λ n. sum_by before names + n * more) zero ∙ (let e : sum_by before names + 0 * more ≡ sum_by before names = omega arith in e) in
        let new : after pair.0 ≡ more =
        each pair.0 ∙ ap (λ b. before pair.0 + cond b more 0) (bytes_eq_refl pair.0)
        ∙ ap (λ n. n + more) (none (sym (list_any-names_of pair.0 pairs) ∙ absent)) ∙ zero-add more in
        sum_by-append after names (pair.0 ∷ []) ∙ ap (λ n. sum_by after names + n) (zero-add (after pair.0)) ∙ (λ i. kept i + new i)

same_usage : {a b c d e f : ℕ} → a ≡ b → c ≡ d → e ≡ f → (let u : Usage = record { text = a; names = c; map = e } in u) ≡ record { text = b; names = d; map = f }
same_usage p q r = λ i. record { text = p i; names = q i; map = r i }

-- what one text more takes up
pub usage_of-push : (pairs : List (Bytes × Bytes)) (pair : Bytes × Bytes)
    → usage_of (pairs ++ pair ∷ []) ≡ with_text (usage_of pairs) (longest pairs pair.0) (length pair.1)
usage_of-push pairs pair =
    same_usage
    (sum_by-append (λ e. length e.1) pairs (pair ∷ []) ∙ ap (λ n. text_bytes pairs + n) (zero-add (length pair.1)))
    (ap length (names_of-push pairs pair) ∙ length-with_name (names_of pairs) pair
    ∙ ap (λ b. length (names_of pairs) + (if b then 0 else 1)) (list_any-names_of pair.0 pairs))
    (map_bytes-push pairs pair)

-- the longest text of each name, where that of one pair is put in
pub longest-update : (pairs : List (Bytes × Bytes)) (pair : Bytes × Bytes) (find : Bytes → Option ℕ) → ((name : Bytes) → find name ≡ longest pairs name)
    → (name : Bytes) → update bytes_eq find pair.0 (Some (max (unwrap_or (find pair.0) 0) (length pair.1))) name ≡ longest (pairs ++ pair ∷ []) name
longest-update pairs pair find is name = by (bytes_eq pair.0 name) refl ∙ sym (longest-push pairs pair name)
  where
    most : (o : Option ℕ) (len : ℕ) → Some (max (unwrap_or o 0) len) ≡ longer o (Some len)
    most None len = ap Some (let e : max 0 len ≡ len = omega arith in e)
    most (Some c) len = refl

    by : (b : Bool) → bytes_eq pair.0 name ≡ b → cond b (Some (max (unwrap_or (find pair.0) 0) (length pair.1))) (find name) ≡ longer (longest pairs name) (if b then Some (length pair.1) else None)
    by true same = most (find pair.0) (length pair.1) ∙ ap (λ o. longer o (Some (length pair.1))) (is pair.0 ∙ ap (longest pairs) ((bytes_eq-Decides pair.0 name).0 same))
    by false other = is name ∙ sym (longer-none (longest pairs name))
