-- A reading: files are read one after another, and what a file says leads to what is read next.
use Rattle.std.specs.Prelude.{◌≡◌, ◌⊎◌, ◌+◌, take, Option, Some, None, Result, Ok, Err}
use Rattle.pc_terms.specs.Bytes.{Bytes}
use Rattle.pc_outside.specs.Outside.{IsBeginning}
use Rattle.session_input.specs.Limits.{most_of}
use Rattle.session_input.specs.declared.limits.Limit.{Limit}
use Rattle.session_input.specs.declared.refusal.Refusal.{Refusal}
use Rattle.session_input.specs.declared.refusal.Refusal.TheVariants as refusal
use Rattle.session_input.specs.declared.refusal.NoInput.{NoInput}
use Rattle.session_input.specs.declared.refusal.NoInput.TheVariants.{Refused, NoMemory}

pub data Reading (A : Type 0) : Type 0 where
  -- this is made of what was read
  Gives : A → Reading A
  -- what was read is refused
  Refuses : Refusal → Reading A
  -- the file of this name is read, its limit and one byte more, and its bytes lead on
  Reads : Limit → Bytes → (Bytes → Reading A) → Reading A

-- one reading after another
abbrev pub then_reads : {A B : Type 0} → (A → Reading B) → Reading A → Reading B
then_reads more (Gives a) = more a
then_reads more (Refuses why) = Refuses why
then_reads more (Reads limit name next) = Reads limit name (λ bytes. then_reads more (next bytes))

abbrev pub OrNoMemory : {A : Type 0} → Result A NoInput → Result A NoInput → Type 0
OrNoMemory expected result = (result ≡ expected) ⊎ (result ≡ Err NoMemory)

-- What a reading comes to. Each file gives its beginning, where its content is told, or it cannot be read, and then the
-- reading ends there: what stands before it was read and not refused. Memory may run out at any place.
abbrev pub ComesTo : {A : Type 0} → (Bytes → Option Bytes) → Reading A → Result A NoInput → Type 0
ComesTo content (Gives a) result = OrNoMemory (Ok a) result
ComesTo content (Refuses why) result = OrNoMemory (Err (Refused why)) result
ComesTo content (Reads limit name next) result =
    OrNoMemory (Err (Refused (refusal.ReadFault name))) result
    ⊎ ((bytes : Bytes) × IsBeginning (content name) (most_of limit + 1) bytes × ComesTo content (next bytes) result)

-- ---- where all contents that matter are told

abbrev pub if_told : {A B : Type 0} → (A → Option B) → Option A → Option B
if_told more None = None
if_told more (Some a) = more a

-- What a reading comes to where nothing fails, if each content that it leads to is told.
abbrev pub told : {A : Type 0} → (Bytes → Option Bytes) → Reading A → Option (Result A Refusal)
told content (Gives a) = Some (Ok a)
told content (Refuses why) = Some (Err why)
told content (Reads limit name next) = if_told (λ bytes. told content (next (take (most_of limit + 1) bytes))) (content name)
