-- One reading after another.
use Rattle.std.proofs.Common.{◌≡◌, ◌⊎◌, inl, inr, ◌+◌, take, Option, Some, None, Result, Ok, Err, refl, sym, ap, ◌∙◌, subst}
use Rattle.pc_terms.specs.Bytes.{Bytes}
use Rattle.pc_outside.specs.Outside.{IsBeginning}
use Rattle.session_input.specs.Limits.{most_of}
use Rattle.session_input.specs.Reads.{Reading, Gives, Refuses, Reads, then_reads, OrNoMemory, ComesTo, if_told, told}
use Rattle.session_input.specs.declared.refusal.Refusal.{Refusal}
use Rattle.session_input.specs.declared.refusal.Refusal.TheVariants as refusal
use Rattle.session_input.specs.declared.refusal.NoInput.{NoInput}
use Rattle.session_input.specs.declared.refusal.NoInput.TheVariants.{Refused, NoMemory}

-- memory may run out at any place
pub comes_to-no_memory : {A : Type 0} (content : Bytes → Option Bytes) (reading : Reading A) → ComesTo content reading (Err NoMemory)
comes_to-no_memory content (Gives a) = inr refl
comes_to-no_memory content (Refuses why) = inr refl
comes_to-no_memory content (Reads limit name next) = inl (inr refl)

err_is : {A B : Type 0} (a b : NoInput) → (let r : Result A NoInput = Err a in r) ≡ Err b → (let r : Result B NoInput = Err a in r) ≡ Err b
err_is a b same = let e : a ≡ b = cc in ap Err e

or_err : {A B : Type 0} (expected none : NoInput) → OrNoMemory {A = A} (Err expected) (Err none) → OrNoMemory {A = B} (Err expected) (Err none)
or_err expected none (inl same) = inl (err_is none expected same)
or_err expected none (inr out) = inr (err_is none NoMemory out)

-- a reading that ends without an answer ends what stands before others so
pub comes_to-then_err : {A B : Type 0} (content : Bytes → Option Bytes) (more : A → Reading B) (reading : Reading A) (none : NoInput)
    → ComesTo content reading (Err none) → ComesTo content (then_reads more reading) (Err none)
comes_to-then_err content more (Gives a) none (inl wrong) = cc
comes_to-then_err content more (Gives a) none (inr out) =
    let e : none ≡ NoMemory = cc in subst (λ (n : NoInput). ComesTo content (more a) (Err n)) (sym e) (comes_to-no_memory content (more a))
comes_to-then_err content more (Refuses why) none comes = or_err (Refused why) none comes
comes_to-then_err content more (Reads limit name next) none (inl failed) = inl (or_err (Refused (refusal.ReadFault name)) none failed)
comes_to-then_err content more (Reads limit name next) none (inr (bytes, begins, comes)) =
    inr (bytes, begins, comes_to-then_err content more (next bytes) none comes)

-- what comes after an answer is what both come to
pub comes_to-then_ok : {A B : Type 0} (content : Bytes → Option Bytes) (more : A → Reading B) (reading : Reading A) (a : A) (result : Result B NoInput)
    → ComesTo content reading (Ok a) → ComesTo content (more a) result → ComesTo content (then_reads more reading) result
comes_to-then_ok content more (Gives b) a result (inl same) comes = let e : a ≡ b = cc in subst (λ c. ComesTo content (more c) result) e comes
comes_to-then_ok content more (Gives b) a result (inr wrong) comes = cc
comes_to-then_ok content more (Refuses why) a result (inl wrong) comes = cc
comes_to-then_ok content more (Refuses why) a result (inr wrong) comes = cc
comes_to-then_ok content more (Reads limit name next) a result (inl (inl wrong)) comes = cc
comes_to-then_ok content more (Reads limit name next) a result (inl (inr wrong)) comes = cc
comes_to-then_ok content more (Reads limit name next) a result (inr (bytes, begins, first)) comes =
    inr (bytes, begins, comes_to-then_ok content more (next bytes) a result first comes)

pub same_content : (a b : Bytes → Option Bytes) → ((other : Bytes) → a other ≡ b other) → a ≡ b
same_content a b same = λ i other. same other i

-- a reading after which another stands ends in the one or in the other
pub comes_to-split : {A B : Type 0} (content : Bytes → Option Bytes) (more : A → Reading B) (reading : Reading A) (none : NoInput) → ComesTo {A = B} content (then_reads more reading) (Err none)
    → ComesTo {A = A} content reading (Err none) ⊎ ((a : A) × ComesTo content reading (Ok a) × ComesTo {A = B} content (more a) (Err none))
comes_to-split content more (Gives a) none comes = inr (a, inl refl, comes)
comes_to-split content more (Refuses why) none comes = inl (or_err (Refused why) none comes)
comes_to-split content more (Reads limit name next) none (inl failed) = inl (inl (or_err (Refused (refusal.ReadFault name)) none failed))
comes_to-split {A = A} {B = B} content more (Reads limit name next) none (inr (bytes, begins, comes)) = by (comes_to-split content more (next bytes) none comes) where
  by : ComesTo content (next bytes) (Err none) ⊎ ((a : A) × ComesTo content (next bytes) (Ok a) × ComesTo {A = B} content (more a) (Err none))
      → ComesTo {A = A} content (Reads limit name next) (Err none) ⊎ ((a : A) × ComesTo content (Reads limit name next) (Ok a) × ComesTo {A = B} content (more a) (Err none))
  by (inl first) = inl (inr (bytes, begins, first))
  by (inr (a, first, second)) = inr (a, inr (bytes, begins, first), second)

-- where the contents tell an answer, nothing but a fault of reading is told in its place
pub fault_or_told : {A : Type 0} (content : Bytes → Option Bytes) (reading : Reading A) (a : A) (why : Refusal) → told content reading ≡ Some (Ok a)
    → ComesTo {A = A} content reading (Err (Refused why)) → (name : Bytes) × (why ≡ refusal.ReadFault name)
fault_or_told content (Gives b) a why is (inl wrong) = cc
fault_or_told content (Gives b) a why is (inr wrong) = cc
fault_or_told content (Refuses other) a why is comes = cc
fault_or_told content (Reads limit name next) a why is (inl (inl same)) = (name, cc)
fault_or_told content (Reads limit name next) a why is (inl (inr wrong)) = cc
fault_or_told content (Reads limit name next) a why is (inr (bytes, begins, comes)) =
    by (content name) is begins (λ text same is_told. fault_or_told content (next bytes) a why (ap (λ b. told content (next b)) same ∙ is_told) comes) where
      by : (c : Option Bytes) → if_told (λ b. told content (next (take (most_of limit + 1) b))) c ≡ Some (Ok a) → IsBeginning c (most_of limit + 1) bytes
          → ((text : Bytes) → bytes ≡ take (most_of limit + 1) text → told content (next (take (most_of limit + 1) text)) ≡ Some (Ok a) → (name : Bytes) × (why ≡ refusal.ReadFault name))
          → (name : Bytes) × (why ≡ refusal.ReadFault name)
      by None wrong begin more = cc
      by (Some text) is_told begin more = more text begin is_told

-- where the contents tell an answer, it is the one that is given
pub given_is_told : {A : Type 0} (content : Bytes → Option Bytes) (reading : Reading A) (a : A) (t : Result A Refusal) → told content reading ≡ Some t → ComesTo content reading (Ok a) → t ≡ Ok a
given_is_told content (Gives b) a t is (inl same) = cc
given_is_told content (Gives b) a t is (inr wrong) = cc
given_is_told content (Refuses why) a t is (inl wrong) = cc
given_is_told content (Refuses why) a t is (inr wrong) = cc
given_is_told content (Reads limit name next) a t is (inl (inl wrong)) = cc
given_is_told content (Reads limit name next) a t is (inl (inr wrong)) = cc
given_is_told content (Reads limit name next) a t is (inr (bytes, begins, comes)) =
    by (content name) is begins (λ text same is_told. given_is_told content (next bytes) a t (ap (λ b. told content (next b)) same ∙ is_told) comes) where
      by : (c : Option Bytes) → if_told (λ b. told content (next (take (most_of limit + 1) b))) c ≡ Some t → IsBeginning c (most_of limit + 1) bytes
          → ((text : Bytes) → bytes ≡ take (most_of limit + 1) text → told content (next (take (most_of limit + 1) text)) ≡ Some t → t ≡ Ok a)
          → t ≡ Ok a
      by None wrong begin more = cc
      by (Some text) is_told begin more = more text begin is_told

-- where the contents tell a refusal, it is the one that is told, or a fault of reading is
pub refused_is_told : {A : Type 0} (content : Bytes → Option Bytes) (reading : Reading A) (why other : Refusal) → told content reading ≡ Some (Err other) → ComesTo {A = A} content reading (Err (Refused why))
    → (why ≡ other) ⊎ ((name : Bytes) × (why ≡ refusal.ReadFault name))
refused_is_told content (Gives b) why other is comes = cc
refused_is_told content (Refuses w) why other is (inl same) = inl (let e : why ≡ w = cc in let f : w ≡ other = cc in e ∙ f)
refused_is_told content (Refuses w) why other is (inr wrong) = cc
refused_is_told content (Reads limit name next) why other is (inl (inl same)) = inr (name, cc)
refused_is_told content (Reads limit name next) why other is (inl (inr wrong)) = cc
refused_is_told content (Reads limit name next) why other is (inr (bytes, begins, comes)) =
    by (content name) is begins (λ text same is_told. refused_is_told content (next bytes) why other (ap (λ b. told content (next b)) same ∙ is_told) comes) where
      by : (c : Option Bytes) → if_told (λ b. told content (next (take (most_of limit + 1) b))) c ≡ Some (Err other) → IsBeginning c (most_of limit + 1) bytes
          → ((text : Bytes) → bytes ≡ take (most_of limit + 1) text → told content (next (take (most_of limit + 1) text)) ≡ Some (Err other) → (why ≡ other) ⊎ ((n : Bytes) × (why ≡ refusal.ReadFault n)))
          → (why ≡ other) ⊎ ((n : Bytes) × (why ≡ refusal.ReadFault n))
      by None wrong begin more = cc
      by (Some text) is_told begin more = more text begin is_told
