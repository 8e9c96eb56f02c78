-- What files in memory hold, and what a read of them answers and changes.
use Rattle.std.specs.Prelude.{◌≡◌, ℕ, Bool, true, false, take, Option, Some, None, Result, Ok, Err, string_bytes}
use Rattle.std.specs.Option.{option_map}
use Rattle.std.specs.BTreeMap.{get_by_text}
use Rattle.std.specs.declared.alloc.Global.{Global}
use Rattle.std.specs.declared.vec.Vec.{Vec}
use Rattle.pc_terms.specs.Bytes.{Bytes}
use Rattle.pc_outside.specs.declared.files.ReadRefused.{ReadRefused}
use Rattle.pc_outside.specs.declared.files.ReadRefused.TheVariants.{Failed, NoMemory}
use Rattle.pc_outside.specs.declared.memory_files.MemoryFiles.{MemoryFiles}
use Rattle.pc_outside.specs.FailurePlan.{is_planned}
use Rattle.pc_outside.specs.Counting.{one_more, faults_after_read}

-- the content of a name
abbrev pub content_of : MemoryFiles → Bytes → Option Bytes
content_of files name = option_map (λ content. content.items) (get_by_text files.contents name)

-- the numbers of the calls that are to fail
abbrev pub failing_of : MemoryFiles → Bytes
failing_of files = files.plan.failing.items

-- how many calls there were
abbrev pub calls_of : MemoryFiles → ℕ
calls_of files = files.plan.calls

-- how many of them failed
abbrev pub faults_of : MemoryFiles → ℕ
faults_of files = files.faults

-- the name of the last call that failed
abbrev pub last_failed_of : MemoryFiles → Option Bytes
last_failed_of files = option_map string_bytes files.last_failed

-- whether the next call is to fail
abbrev pub next_is_planned : MemoryFiles → Bool
next_is_planned files = is_planned (failing_of files) (calls_of files)

-- what a read answers, where memory suffices
abbrev pub answer_of : Bool → Option Bytes → ℕ → Result Bytes ReadRefused
answer_of true content most = Err Failed
answer_of false None most = Err Failed
answer_of false (Some bytes) most = Ok (take most bytes)

-- the answer is the one that is expected, or that there was no memory
abbrev pub AnswersUnlessNoMemory : Result (Vec ℕ Global) ReadRefused → Result Bytes ReadRefused → Type 0
AnswersUnlessNoMemory (Ok bytes) expected = Ok bytes.items ≡ expected
AnswersUnlessNoMemory (Err Failed) expected = Err Failed ≡ expected
AnswersUnlessNoMemory (Err NoMemory) expected = Unit {0}

-- the name of the last call that failed, after an answer for this name
abbrev pub last_failed_after : {V : Type 0} → Result V ReadRefused → Bytes → Option Bytes → Option Bytes
last_failed_after (Err Failed) name last = Some name
last_failed_after _ name last = last

-- each content is as it was
abbrev pub SameContents : MemoryFiles → MemoryFiles → Type 0
SameContents old new = (other : Bytes) → content_of new other ≡ content_of old other

-- the calls that are to fail, the calls and the faults are as they were
pub record SameCalls (old new : MemoryFiles) : Type 0 where
  pub failing : failing_of new ≡ failing_of old
  pub calls : calls_of new ≡ calls_of old
  pub faults : faults_of new ≡ faults_of old
  pub last_failed : last_failed_of new ≡ last_failed_of old

-- what a read of a name leaves after its answer
pub record Counts {V : Type 0} (result : Result V ReadRefused) (name : Bytes) (old new : MemoryFiles) : Type 0 where
  pub failing : failing_of new ≡ failing_of old
  pub calls : calls_of new ≡ one_more (calls_of old)
  pub faults : faults_of new ≡ faults_after_read result (faults_of old)
  pub last_failed : last_failed_of new ≡ last_failed_after result name (last_failed_of old)
