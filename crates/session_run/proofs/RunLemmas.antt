-- A run from its words to its line for the user.
use Rattle.std.proofs.Common.{◌≡◌, inl, inr, ℕ, List, [], Option, Some, None, Ok, refl, sym, subst, arith}
use Rattle.pc_terms.specs.Bytes.{Bytes}
use Rattle.pc_terms.specs.declared.problems.Problem.{Problem}
use Rattle.pc_outside.specs.Outside.{Rose}
use Rattle.ask_history.specs.Sources.{Sources}
use Rattle.ask_history.specs.declared.calls.Call.{Call}
use Rattle.ask_history.specs.declared.answers.Answer.{Answer}
use Rattle.ask_history.specs.declared.events.Event.{Event}
use Rattle.ask_history.specs.declared.script.Line.{Line}
use Rattle.report_hub.specs.Telling.{ReporterState}
use Rattle.report_hub.specs.Told.{WasToldMost}
use Rattle.report_hub.proofs.Reports.{WasToldMost-none}
use Rattle.session_input.specs.Input.{schedule_reading}
use Rattle.session_input.specs.Reads.{ComesTo}
use Rattle.session_input.specs.Faults.{RoseIfFault}
use Rattle.session_input.specs.declared.refusal.Refusal.{Refusal}
use Rattle.session_input.specs.declared.refusal.Refusal.TheVariants as refusal
use Rattle.session_input.proofs.ReadLemmas.{fault_or_told}
use Rattle.session_input.proofs.FaultLemmas.{fault_names}
use Rattle.session_run.specs.Words.{mode_of, schedule_of}
use Rattle.session_run.specs.Printed.{printed, Wrote}
use Rattle.session_run.specs.Reading.{HasInput, RoseAsTold, CountsReads, HasReadFaults, HasWriteFault, NamesReadFile}
use Rattle.session_run.specs.Run.{IsSessionEnding}
use Rattle.session_run.specs.Session.{SessionOwes}
use Rattle.session_run.specs.Owed.{Seen, IsJournalOf, Completes, IsRun}
use Rattle.session_run.specs.Telling.{IsOrNoMemory}
use Rattle.session_run.specs.declared.modes.Mode.{Mode}
use Rattle.session_run.specs.declared.modes.Mode.TheVariants.{Alone, Threads, Bad}
use Rattle.session_run.specs.declared.ending.Ending.{Ending}
use Rattle.session_run.specs.declared.ending.Ending.TheVariants as ending
use Rattle.session_run.proofs.SessionLemmas.{grew_by_nothing}

-- ---- a session

no_fault_played : (ended : Ending) (before now : ℕ) (last : Option Bytes) → IsSessionEnding ended → now ≡ before → RoseAsTold ended before now last
no_fault_played ending.Done before now last ends same = same
no_fault_played ending.WriteFault before now last ends same = same
no_fault_played ending.NoMemory before now last ends same = tt
no_fault_played ending.Usage before now last ends same = absurd ends
no_fault_played ending.SpawnFault before now last ends same = absurd ends
no_fault_played (ending.Refused why) before now last ends same = absurd ends

no_name_played : (content : Bytes → Option Bytes) (schedule : Bytes) (ended : Ending) → IsSessionEnding ended → NamesReadFile content schedule ended
no_name_played content schedule ending.Done ends = tt
no_name_played content schedule ending.WriteFault ends = tt
no_name_played content schedule ending.NoMemory ends = tt
no_name_played content schedule ending.Usage ends = absurd ends
no_name_played content schedule ending.SpawnFault ends = absurd ends
no_name_played content schedule (ending.Refused why) ends = absurd ends

completes_played : (content : Bytes → Option Bytes) (words : List Bytes) (seen : Seen) (ended : Ending) → IsSessionEnding ended → HasWriteFault ended seen.put_faults seen.put_faults' → Completes content words seen ended
completes_played content words seen ending.Done ends writing = λ lines alone is reads puts. inl refl
completes_played content words seen ending.WriteFault ends writing = λ lines alone is reads puts. absurd (puts writing)
completes_played content words seen ending.NoMemory ends writing = λ lines alone is reads puts. inr refl
completes_played content words seen ending.Usage ends writing = absurd ends
completes_played content words seen ending.SpawnFault ends writing = absurd ends
completes_played content words seen (ending.Refused why) ends writing = absurd ends

pub run_played : (answer_of : Sources → Call → Answer) (problems_of : Sources → Bytes → List Problem) (content : Bytes → Option Bytes) (words : List Bytes) (seen : Seen) (lines : List Line) (ended : Ending) (journal : List Event)
    → mode_of words ≡ Alone → ComesTo content (schedule_reading (schedule_of words)) (Ok lines) → seen.read_faults' ≡ seen.read_faults
    → SessionOwes answer_of problems_of lines
    (record { put_faults = seen.put_faults; put_faults' = seen.put_faults'; out = seen.out; out' = seen.out'; engine' = seen.engine'; reporter = seen.reporter; reporter' = seen.reporter' }) ended journal
    → IsRun answer_of problems_of content words seen ended journal
run_played answer_of problems_of content words seen lines ended journal alone read same owes = record {
  began = Some lines;
  input = subst (λ (m : Mode). HasInput m content (schedule_of words) (Some lines) ended) (sym alone) (owes.ends, read);
  ran = owes.ran;
  legal = owes.legal;
  settled = owes.settled;
  output = owes.output;
  reading = (omega (arith, same), no_fault_played ended seen.read_faults seen.read_faults' seen.last_failed' owes.ends same);
  named = no_name_played content (schedule_of words) ended owes.ends;
  writing = owes.writing;
  complete = completes_played content words seen ended owes.ends owes.writing;
  reported = owes.reported;
  engine = owes.engine;
}

-- ---- no session

no_output : (mode : Mode) (content : Bytes → Option Bytes) (schedule : Bytes) (ended : Ending) (out : Option Bytes) → HasInput mode content schedule None ended → Wrote [] ended out out
no_output mode content schedule ending.Usage out input = refl
no_output mode content schedule (ending.Refused why) out input = refl
no_output mode content schedule ending.NoMemory out input = grew_by_nothing [] out
no_output Alone content schedule ending.Done out input = absurd input
no_output Threads content schedule ending.Done out input = let e = input.1 in cc
no_output Bad content schedule ending.Done out input = let e = input.1 in cc
no_output Alone content schedule ending.WriteFault out input = absurd input
no_output Threads content schedule ending.WriteFault out input = let e = input.1 in cc
no_output Bad content schedule ending.WriteFault out input = let e = input.1 in cc
no_output Alone content schedule ending.SpawnFault out input = absurd input
no_output Threads content schedule ending.SpawnFault out input = let e = input.1 in cc
no_output Bad content schedule ending.SpawnFault out input = let e = input.1 in cc

no_write_fault : (mode : Mode) (content : Bytes → Option Bytes) (schedule : Bytes) (ended : Ending) (before now : ℕ) → HasInput mode content schedule None ended → now ≡ before → HasWriteFault ended before now
no_write_fault mode content schedule ending.Usage before now input same = same
no_write_fault mode content schedule (ending.Refused why) before now input same = same
no_write_fault mode content schedule ending.NoMemory before now input same = same
no_write_fault mode content schedule ending.Done before now input same = same
no_write_fault mode content schedule ending.SpawnFault before now input same = same
no_write_fault Alone content schedule ending.WriteFault before now input same = absurd input
no_write_fault Threads content schedule ending.WriteFault before now input same = let e = input.1 in cc
no_write_fault Bad content schedule ending.WriteFault before now input same = let e = input.1 in cc

-- what reading did may be told
pub told_reads : (ended : Ending) (before now : ℕ) (last : Option Bytes) → CountsReads ended before now last → HasReadFaults ended before now last
told_reads ending.NoMemory before now last counts = (counts.0, tt)
told_reads ending.Done before now last counts = counts
told_reads ending.Usage before now last counts = counts
told_reads ending.WriteFault before now last counts = counts
told_reads ending.SpawnFault before now last counts = counts
told_reads (ending.Refused why) before now last counts = counts

names_refused : (mode : Mode) (content : Bytes → Option Bytes) (schedule : Bytes) (ended : Ending) → HasInput mode content schedule None ended → NamesReadFile content schedule ended
names_refused Alone content schedule (ending.Refused (refusal.ReadFault name)) input = fault_names content schedule name input
names_refused Threads content schedule (ending.Refused (refusal.ReadFault name)) input = let e = input.1 in cc
names_refused Bad content schedule (ending.Refused (refusal.ReadFault name)) input = let e = input.1 in cc
names_refused mode content schedule (ending.Refused (refusal.BadScript name line)) input = tt
names_refused mode content schedule (ending.Refused (refusal.Limit limit value)) input = tt
names_refused mode content schedule (ending.Refused (refusal.NotUtf8 name byte)) input = tt
names_refused mode content schedule ending.Done input = tt
names_refused mode content schedule ending.Usage input = tt
names_refused mode content schedule ending.WriteFault input = tt
names_refused mode content schedule ending.SpawnFault input = tt
names_refused mode content schedule ending.NoMemory input = tt

pub risen_for : (why : Refusal) (before now : ℕ) (last : Option Bytes) → (name : Bytes) × (why ≡ refusal.ReadFault name) → RoseIfFault why before now last → Rose before now
risen_for why before now last (name, is) rose = (subst (λ (w : Refusal). RoseIfFault w before now last) is rose).0

completes_refused : (content : Bytes → Option Bytes) (words : List Bytes) (seen : Seen) (ended : Ending) → HasInput (mode_of words) content (schedule_of words) None ended
    → HasReadFaults ended seen.read_faults seen.read_faults' seen.last_failed' → Completes content words seen ended
completes_refused content words seen ending.Done input reading = λ lines alone is reads puts. inl refl
completes_refused content words seen ending.NoMemory input reading = λ lines alone is reads puts. inr refl
completes_refused content words seen ending.WriteFault input reading = λ lines alone is reads puts. absurd (subst (λ (m : Mode). HasInput m content (schedule_of words) None ending.WriteFault) alone input)
completes_refused content words seen ending.Usage input reading = λ lines alone is reads puts. absurd (subst (λ (m : Mode). HasInput m content (schedule_of words) None ending.Usage) alone input)
completes_refused content words seen ending.SpawnFault input reading = λ lines alone is reads puts. absurd (subst (λ (m : Mode). HasInput m content (schedule_of words) None ending.SpawnFault) alone input)
completes_refused content words seen (ending.Refused why) input reading = λ lines alone is reads puts.
    let refused = subst (λ (m : Mode). HasInput m content (schedule_of words) None (ending.Refused why)) alone input in
    absurd (reads (risen_for why seen.read_faults seen.read_faults' seen.last_failed' (fault_or_told content (schedule_reading (schedule_of words)) lines why is refused) reading.1))

pub run_refused : (answer_of : Sources → Call → Answer) (problems_of : Sources → Bytes → List Problem) (content : Bytes → Option Bytes) (words : List Bytes) (seen : Seen) (ended : Ending)
    → HasInput (mode_of words) content (schedule_of words) None ended → CountsReads ended seen.read_faults seen.read_faults' seen.last_failed'
    → seen.put_faults' ≡ seen.put_faults → seen.out' ≡ seen.out → seen.engine' ≡ seen.engine → seen.reporter' ≡ seen.reporter → IsRun answer_of problems_of content words seen ended []
run_refused answer_of problems_of content words seen ended input reads puts out engine reporter =
    let reading = told_reads ended seen.read_faults seen.read_faults' seen.last_failed' reads in record {
      began = None;
      input = input;
      ran = refl;
      legal = refl;
      settled = refl;
      output = subst (λ (now : Option Bytes). Wrote [] ended seen.out now) (sym out) (no_output (mode_of words) content (schedule_of words) ended seen.out input);
      reading = reading;
      named = names_refused (mode_of words) content (schedule_of words) ended input;
      writing = no_write_fault (mode_of words) content (schedule_of words) ended seen.put_faults seen.put_faults' input puts;
      complete = completes_refused content words seen ended input reading;
      reported = subst (λ (now : ReporterState). WasToldMost [] seen.reporter now) (sym reporter) (WasToldMost-none seen.reporter);
      engine = engine;
    }

-- ---- the line for the user may end a refused run out of memory

out_of_memory_input : (mode : Mode) (content : Bytes → Option Bytes) (schedule : Bytes) (began : Option (List Line)) (why : Refusal) → HasInput mode content schedule began (ending.Refused why) → HasInput mode content schedule began ending.NoMemory
out_of_memory_input Alone content schedule None why input = tt
out_of_memory_input Alone content schedule (Some lines) why input = absurd input.0
out_of_memory_input Threads content schedule began why input = let e = input.1 in cc
out_of_memory_input Bad content schedule began why input = let e = input.1 in cc

out_of_memory_ran : (began : Option (List Line)) (why : Refusal) (journal : List Event) → IsJournalOf began (ending.Refused why) journal → IsJournalOf began ending.NoMemory journal
out_of_memory_ran None why journal ran = ran
out_of_memory_ran (Some lines) why journal ran = inl ran

pub still_run : (answer_of : Sources → Call → Answer) (problems_of : Sources → Bytes → List Problem) (content : Bytes → Option Bytes) (words : List Bytes) (seen : Seen) (ended telling : Ending) (journal : List Event)
    → IsOrNoMemory ended telling → IsRun answer_of problems_of content words seen ended journal → IsRun answer_of problems_of content words seen telling journal
still_run answer_of problems_of content words seen ending.Done telling journal same run = subst (λ (e : Ending). IsRun answer_of problems_of content words seen e journal) (sym same) run
still_run answer_of problems_of content words seen ending.Usage telling journal same run = subst (λ (e : Ending). IsRun answer_of problems_of content words seen e journal) (sym same) run
still_run answer_of problems_of content words seen ending.WriteFault telling journal same run = subst (λ (e : Ending). IsRun answer_of problems_of content words seen e journal) (sym same) run
still_run answer_of problems_of content words seen ending.NoMemory telling journal same run = subst (λ (e : Ending). IsRun answer_of problems_of content words seen e journal) (sym same) run
still_run answer_of problems_of content words seen ending.SpawnFault telling journal same run = subst (λ (e : Ending). IsRun answer_of problems_of content words seen e journal) (sym same) run
still_run answer_of problems_of content words seen (ending.Refused why) telling journal (inl same) run = subst (λ (e : Ending). IsRun answer_of problems_of content words seen e journal) (sym same) run
still_run answer_of problems_of content words seen (ending.Refused why) telling journal (inr none) run =
    subst (λ (e : Ending). IsRun answer_of problems_of content words seen e journal) (sym none) (record {
      began = run.began;
      input = out_of_memory_input (mode_of words) content (schedule_of words) run.began why run.input;
      ran = out_of_memory_ran run.began why journal run.ran;
      legal = run.legal;
      settled = run.settled;
      output = rw run.output (grew_by_nothing (printed answer_of problems_of run.began journal) seen.out);
      reading = (run.reading.0, tt);
      named = tt;
      writing = run.writing;
      complete = λ lines alone is reads puts. inr refl;
      reported = run.reported;
      engine = run.engine;
    })
