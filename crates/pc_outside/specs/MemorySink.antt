-- What a sink in memory holds, and what a put on it answers and changes.
use Rattle.std.specs.Prelude.{◌≡◌, ℕ, ◌/◌, Bool, true, false, ◌++◌, length, take, Result, Ok, Err}
use Rattle.pc_terms.specs.Bytes.{Bytes}
use Rattle.pc_outside.specs.declared.sink.PutRefused.{PutRefused}
use Rattle.pc_outside.specs.declared.sink.PutRefused.TheVariants.{Failed, NoMemory}
use Rattle.pc_outside.specs.declared.memory_sink.MemorySink.{MemorySink}
use Rattle.pc_outside.specs.FailurePlan.{is_planned}
use Rattle.pc_outside.specs.Counting.{one_more, faults_after_put, whole_after_put}

-- the bytes that were written so far
abbrev pub written_of : MemorySink → Bytes
written_of sink = sink.written.items

-- the numbers of the calls that are to fail
abbrev pub failing_of : MemorySink → Bytes
failing_of sink = sink.plan.failing.items

-- how many calls there were
abbrev pub calls_of : MemorySink → ℕ
calls_of sink = sink.plan.calls

-- how many of them failed
abbrev pub faults_of : MemorySink → ℕ
faults_of sink = sink.faults

-- whether each call so far answered `Ok`
abbrev pub whole_of : MemorySink → Bool
whole_of sink = sink.whole

-- whether the next call is to fail
abbrev pub next_is_planned : MemorySink → Bool
next_is_planned sink = is_planned (failing_of sink) (calls_of sink)

-- the answer is `Failed` exactly where that was planned, unless there was no memory
abbrev pub AnswersUnlessNoMemory : {V : Type 0} → Result V PutRefused → Bool → Type 0
AnswersUnlessNoMemory (Ok done) planned = planned ≡ false
AnswersUnlessNoMemory (Err Failed) planned = planned ≡ true
AnswersUnlessNoMemory (Err NoMemory) planned = Unit {0}

-- the bytes of a put that reach the sink: all of them, the first half where it fails, none without memory
abbrev pub reaching : {V : Type 0} → Result V PutRefused → Bytes → Bytes
reaching (Ok done) bytes = bytes
reaching (Err Failed) bytes = take (length bytes / 2) bytes
reaching (Err NoMemory) bytes = take 0 bytes

-- what a put of bytes leaves after its answer
pub record Puts {V : Type 0} (result : Result V PutRefused) (bytes : Bytes) (old new : MemorySink) : Type 0 where
  pub written : written_of new ≡ written_of old ++ reaching result bytes
  pub failing : failing_of new ≡ failing_of old
  pub calls : calls_of new ≡ one_more (calls_of old)
  pub faults : faults_of new ≡ faults_after_put result (faults_of old)
  pub whole : whole_of new ≡ whole_after_put result (whole_of old)
