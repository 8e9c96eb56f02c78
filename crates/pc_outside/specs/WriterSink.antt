-- What a sink over a writer counts, and what its puts leave in a writer that tells its bytes.
use Rattle.std.specs.Prelude.{ℕ, Bool, take, Option, Result, Ok, Err}
use Rattle.std.specs.Io.KnownBytes.{Appends}
use Rattle.pc_terms.specs.Bytes.{Bytes}
use Rattle.pc_outside.specs.declared.writer_sink.WriterSink.{WriterSink}

-- the writer
abbrev pub writer_of : {W : Type 0} → WriterSink W → W
writer_of sink = sink.writer

-- how many puts failed
abbrev pub faults_of : {W : Type 0} → WriterSink W → ℕ
faults_of sink = sink.faults

-- whether each put so far answered `Ok`
abbrev pub whole_of : {W : Type 0} → WriterSink W → Bool
whole_of sink = sink.whole

-- the writer took all of the bytes, or, where that failed, a prefix of them
abbrev pub TakesBytes : {V E : Type 0} → Result V E → Bytes → Option Bytes → Option Bytes → Type 0
TakesBytes (Ok done) bytes old new = Appends old new bytes
TakesBytes (Err e) bytes old new = (n : ℕ) × Appends old new (take n bytes)
