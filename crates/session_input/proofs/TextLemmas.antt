-- One file, from its bytes to its text.
use Rattle.std.proofs.Common.{◌≡◌, inl, inr, ℕ, zero, suc, ◌+◌, ◌<◌, ◌≤◌, Bool, true, false, cond, ◌==◌, nat_lt, List, [], ◌∷◌, length, take, take_all, Option, Result, Ok, Err, IsUtf8, refl, ap, subst, arith}
use Rattle.std.proofs.lemmas.Bool.Decides.{nat_tests}
use Rattle.std.proofs.lemmas.Str.{IsUtf8-from_is_utf8}
use Rattle.std.specs.Str.{is_utf8}
use Rattle.std.specs.Str.Lossy.{valid_len_up_to, utf8_valid_len}
use Rattle.pc_terms.specs.Bytes.{Bytes}
use Rattle.session_input.specs.Limits.{most_of}
use Rattle.session_input.specs.Reads.{Gives, Refuses, ComesTo}
use Rattle.session_input.specs.Sources.{accepted, lines_or_bad}
use Rattle.ask_history.specs.declared.script.Line.{Line}
use Rattle.session_input.specs.Faults.{CountsFaults, RoseIfFault}
use Rattle.session_input.specs.declared.limits.Limit.{Limit}
use Rattle.session_input.specs.declared.refusal.Refusal.{Refusal}
use Rattle.session_input.specs.declared.refusal.Refusal.TheVariants as refusal
use Rattle.session_input.specs.declared.refusal.NoInput.{NoInput}
use Rattle.session_input.specs.declared.refusal.NoInput.TheVariants.{Refused, NoMemory}

-- ---- bytes that are all UTF-8

valid_len_up_to_le : (bs : List ℕ) (n : ℕ) → valid_len_up_to bs n ≤ n
valid_len_up_to_le bs zero = omega arith
valid_len_up_to_le bs (suc n) = by (is_utf8 (take (suc n) bs)) (valid_len_up_to_le bs n) where
  by : (b : Bool) → valid_len_up_to bs n ≤ n → cond b (suc n) (valid_len_up_to bs n) ≤ suc n
  by true rest = omega arith
  by false rest = omega arith

utf8_up_to : (bs : List ℕ) (n : ℕ) → 0 < n → valid_len_up_to bs n ≡ n → IsUtf8 (take n bs)
utf8_up_to bs zero some whole = absurd (omega arith)
utf8_up_to bs (suc n) some whole = by (is_utf8 (take (suc n) bs)) refl where
  by : (b : Bool) → is_utf8 (take (suc n) bs) ≡ b → IsUtf8 (take (suc n) bs)
  by true e = IsUtf8-from_is_utf8 (take (suc n) bs) e
  by false e =
      let less : cond false (suc n) (valid_len_up_to bs n) ≡ suc n = subst (λ b. cond b (suc n) (valid_len_up_to bs n) ≡ suc n) e whole in
      absurd (omega (arith, valid_len_up_to_le bs n, less))

pub utf8_from_valid_len : (bs : List ℕ) → utf8_valid_len bs ≡ length bs → IsUtf8 bs
unfolding utf8_valid_len
utf8_from_valid_len bs whole = by (length bs) refl where
  by : (n : ℕ) → length bs ≡ n → IsUtf8 bs
  by zero none = subst IsUtf8 (empty bs none) ([], (refl, refl)) where
    empty : (xs : List ℕ) → length xs ≡ 0 → [] ≡ xs
    empty [] h = refl
    empty (x ∷ xs) h = cc
  by (suc n) some = subst IsUtf8 (take_all (length bs) bs (omega arith)) (utf8_up_to bs (length bs) (omega arith) whole)

-- ---- what is accepted

short : (limit : Limit) (bytes : Bytes) → length bytes ≤ most_of limit → nat_lt (most_of limit) (length bytes) ≡ false
short limit bytes small = grind (arith, nat_tests)

equal : (m n : ℕ) → m ≡ n → (m == n) ≡ true
equal m n same = grind (arith, nat_tests)

unequal : (m n : ℕ) → (m ≡ n → ⊥) → (m == n) ≡ false
unequal m n differ = by (m == n) refl where
  by : (b : Bool) → (m == n) ≡ b → b ≡ false
  by true e = absurd (differ (grind (arith, nat_tests)))
  by false e = refl

pub accepted_text : (limit : Limit) (name bytes text : Bytes) → length bytes ≤ most_of limit → utf8_valid_len bytes ≡ length bytes → text ≡ bytes
    → (content : Bytes → Option Bytes) → ComesTo content (accepted limit name bytes) (Ok text)
accepted_text limit name bytes text small whole same content =
    rw (short limit bytes small, equal (utf8_valid_len bytes) (length bytes) whole) (inl (ap Ok same))

pub accepted_not : (limit : Limit) (name bytes named : Bytes) (byte : ℕ) → length bytes ≤ most_of limit → (utf8_valid_len bytes ≡ length bytes → ⊥) → named ≡ name → byte ≡ utf8_valid_len bytes
    → (content : Bytes → Option Bytes) → ComesTo {A = Bytes} content (accepted limit name bytes) (Err (Refused (refusal.NotUtf8 named byte)))
accepted_not limit name bytes named byte small part same at content =
    rw (short limit bytes small, unequal (utf8_valid_len bytes) (length bytes) part) (inl (λ i. Err (Refused (refusal.NotUtf8 (same i) (at i)))))

-- ---- what is not a fault of reading

no_memory_counts : {A : Type 0} (result : Result A NoInput) (before now : ℕ) (last : Option Bytes) → result ≡ Err NoMemory → now ≡ before → CountsFaults result before now last
no_memory_counts result before now last none same = rw none same

pub given_counts : {A : Type 0} (a : A) (content : Bytes → Option Bytes) (result : Result A NoInput) (before now : ℕ) (last : Option Bytes) → ComesTo content (Gives a) result → now ≡ before → CountsFaults result before now last
given_counts a content result before now last (inl ok) same = rw ok same
given_counts a content result before now last (inr none) same = no_memory_counts result before now last none same

pub refused_counts : {A : Type 0} (why : Refusal) (content : Bytes → Option Bytes) (result : Result A NoInput) (before now : ℕ) (last : Option Bytes)
    → (now ≡ before → RoseIfFault why before now last) → ComesTo content (Refuses why) result → now ≡ before → CountsFaults result before now last
refused_counts why content result before now last other (inl refused) same = rw refused (omega (arith, same), other same)
refused_counts why content result before now last other (inr none) same = no_memory_counts result before now last none same

pub accepted_counts : (limit : Limit) (name bytes : Bytes) (content : Bytes → Option Bytes) (result : Result Bytes NoInput) (before now : ℕ) (last : Option Bytes)
    → ComesTo content (accepted limit name bytes) result → now ≡ before → CountsFaults result before now last
accepted_counts limit name bytes content result before now last = by (nat_lt (most_of limit) (length bytes)) (utf8_valid_len bytes == length bytes) where
  by : (long whole : Bool)
      → ComesTo content (cond long (Refuses (refusal.Limit limit (most_of limit + 1))) (cond whole (Gives bytes) (Refuses (refusal.NotUtf8 name (utf8_valid_len bytes))))) result
      → now ≡ before → CountsFaults result before now last
  by true whole = refused_counts (refusal.Limit limit (most_of limit + 1)) content result before now last (λ is. is)
  by false true = given_counts bytes content result before now last
  by false false = refused_counts (refusal.NotUtf8 name (utf8_valid_len bytes)) content result before now last (λ is. is)

pub lines_counts : (name : Bytes) (read : Result (List Line) ℕ) (content : Bytes → Option Bytes) (result : Result (List Line) NoInput) (before now : ℕ) (last : Option Bytes)
    → ComesTo content (lines_or_bad name read) result → now ≡ before → CountsFaults result before now last
lines_counts name (Ok lines) content result before now last comes same = given_counts lines content result before now last comes same
lines_counts name (Err number) content result before now last comes same = refused_counts (refusal.BadScript name number) content result before now last (λ is. is) comes same
