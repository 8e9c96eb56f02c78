-- One more source among the known texts.
use Rattle.std.proofs.Common.{◌≡◌, ℕ, zero, suc, ◌+◌, ◌<◌, Bool, true, false, cond, List, [], ◌∷◌, ◌++◌, length, get_or, take, add-one, Option, Some, None, is_some, refl, sym, ap, ◌∙◌, subst, arith}
use Rattle.std.specs.Str.{bytes_eq}
use Rattle.std.specs.Cmp.Lexicographic.{same_text}
use Rattle.std.proofs.lemmas.Bool.{false≢true}
use Rattle.indexmap.specs.IndexMap.{IndexMap, get}
use Rattle.ask_history.specs.Sources.{text_of}
use Rattle.script_text.specs.Words.{Bytes}
use Rattle.script_text.specs.Known.{Knows}

abbrev first_of : Option Bytes → Option Bytes → Option Bytes
first_of (Some text) later = Some text
first_of None later = later

text_of-push : (sources : List (Bytes × Bytes)) (pair : Bytes × Bytes) (path : Bytes)
    → text_of (sources ++ pair ∷ []) path ≡ first_of (text_of sources path) (cond (bytes_eq path pair.0) (Some pair.1) None)
text_of-push [] pair path = refl
text_of-push (source ∷ sources) pair path = by (bytes_eq path source.0) (text_of-push sources pair path)
  where
    by : (b : Bool) → text_of (sources ++ pair ∷ []) path ≡ first_of (text_of sources path) (cond (bytes_eq path pair.0) (Some pair.1) None)
        → cond b (Some source.1) (text_of (sources ++ pair ∷ []) path) ≡ first_of (cond b (Some source.1) (text_of sources path)) (cond (bytes_eq path pair.0) (Some pair.1) None)
    by true rest = refl
    by false rest = rest

none_later : (found : Option Bytes) → first_of found None ≡ found
none_later None = refl
none_later (Some text) = refl

-- another path than the last one
other_path : (before : List (Bytes × Bytes)) (pair : Bytes × Bytes) (other : Bytes) → bytes_eq other pair.0 ≡ false → text_of (before ++ pair ∷ []) other ≡ text_of before other
other_path before pair other e = text_of-push before pair other ∙ rw e (none_later (text_of before other))

turned : (a b : Bytes) → bytes_eq a b ≡ true → bytes_eq b a ≡ true
turned a b e = let same : a ≡ b = same_text a b (sym e) in subst (λ (p : Bytes). bytes_eq b p ≡ true) (sym same) (subst (λ (p : Bytes). bytes_eq p b ≡ true) same e)

turned_false : (a b : Bytes) → bytes_eq a b ≡ false → bytes_eq b a ≡ false
turned_false a b e = by (bytes_eq b a) refl
  where
    by : (t : Bool) → bytes_eq b a ≡ t → t ≡ false
    by true back = absurd (false≢true (sym e ∙ turned b a back))
    by false back = refl

none_is : (found : Option Bytes) → is_some found ≡ false → found ≡ None
none_is None h = refl
none_is (Some text) h = absurd (false≢true (sym h))

-- a new path goes last
pub knows-new : {S : Type 0} (known known' : IndexMap Bytes Bytes S) (before : List (Bytes × Bytes)) (pair : Bytes × Bytes) → Knows known before → is_some (get bytes_eq known pair.0) ≡ false
    → ((other : Bytes) → get bytes_eq known' other ≡ cond (bytes_eq pair.0 other) (Some pair.1) (get bytes_eq known other)) → Knows known' (before ++ pair ∷ [])
knows-new known known' before pair knows absent updates other = updates other ∙ by (bytes_eq pair.0 other) refl
  where
    by : (t : Bool) → bytes_eq pair.0 other ≡ t → cond t (Some pair.1) (get bytes_eq known other) ≡ text_of (before ++ pair ∷ []) other
    by true e =
        let same : pair.0 ≡ other = same_text pair.0 other (sym e) in
        let none : text_of before other ≡ None = sym (knows other) ∙ subst (λ (p : Bytes). get bytes_eq known p ≡ None) same (none_is (get bytes_eq known pair.0) absent) in
        sym (text_of-push before pair other ∙ rw (none, turned pair.0 other e) refl)
    by false e = knows other ∙ sym (other_path before pair other (turned_false pair.0 other e))

-- a path that is known keeps its text
pub knows-kept : {S : Type 0} (known : IndexMap Bytes Bytes S) (before : List (Bytes × Bytes)) (pair : Bytes × Bytes) → Knows known before → is_some (get bytes_eq known pair.0) ≡ true → Knows known (before ++ pair ∷ [])
knows-kept known before pair knows present other = knows other ∙ by (bytes_eq other pair.0) refl
  where
    first_stays : (found later : Option Bytes) → is_some found ≡ true → found ≡ first_of found later
    first_stays None later h = absurd (false≢true h)
    first_stays (Some text) later h = refl

    by : (t : Bool) → bytes_eq other pair.0 ≡ t → text_of before other ≡ text_of (before ++ pair ∷ []) other
    by true e =
        let same : pair.0 ≡ other = sym (same_text other pair.0 (sym e)) in
        let there : is_some (text_of before other) ≡ true = ap is_some (sym (knows other)) ∙ subst (λ (p : Bytes). is_some (get bytes_eq known p) ≡ true) same present in
        first_stays (text_of before other) (cond (bytes_eq other pair.0) (Some pair.1) None) there ∙ sym (text_of-push before pair other)
    by false e = sym (other_path before pair other e)

pub ruleset known_rules = (knows-new, knows-kept)

pub take_one_more : {A : Type 0} (xs : List A) (i : ℕ) (x : A) → i < length xs → x ≡ get_or xs i x → take (i + 1) xs ≡ take i xs ++ x ∷ []
take_one_more [] i x within here = absurd (omega arith)
take_one_more (y ∷ ys) zero x within here = ap (λ z. z ∷ []) (sym here)
take_one_more (y ∷ ys) (suc i) x within here = rw add-one (ap (λ rest. y ∷ rest) (rw add-one at (take_one_more ys i x (omega arith) here)))
