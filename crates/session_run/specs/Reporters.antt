-- What a reporter that writes on a sink was told.
use Rattle.std.specs.Prelude.{◌≡◌, true, ℕ, Bool, List, ◌++◌, Option, Result, Ok, Err}
use Rattle.std.specs.Option.{option_map}
use Rattle.pc_terms.specs.Bytes.{Bytes}
use Rattle.report_hub.specs.Telling.{Finding}
use Rattle.session_run.specs.Printed.{GrewBy}
use Rattle.session_run.specs.declared.reporter.SinkReporter.{SinkReporter}

abbrev pub told_of : {O : Type 0} → SinkReporter O → List Finding
told_of reporter = reporter.told.items

abbrev pub faults_of : {O : Type 0} → SinkReporter O → ℕ
faults_of reporter = reporter.faults

abbrev pub sink_of : {O : Type 0} → SinkReporter O → O
sink_of reporter = reporter.out

-- What a report leaves on the sink: its text where it is told, and else a prefix of it; or nothing, where each put so far was
-- whole.
abbrev pub WroteText : {V E : Type 0} → Result V E → Bytes → Bool → Option Bytes → Option Bytes → Type 0
WroteText (Ok done) text whole before now = now ≡ option_map (λ bytes. bytes ++ text) before
WroteText (Err failed) text whole before now = GrewBy text before now × (whole ≡ true → now ≡ before)
