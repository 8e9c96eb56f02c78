-- A run of clients from its words to its line for the user.
use Rattle.std.proofs.Common.{◌≡◌, ◌⊎◌, inl, inr, ℕ, ◌||◌, Bool, true, false, List, [], ◌∷◌, ◌++◌, Option, Some, None, Ok, refl, sym, ap, ◌∙◌, subst, arith}
use Rattle.std.specs.Prelude.{⊤}
use Rattle.pc_terms.specs.Bytes.{Bytes}
use Rattle.pc_terms.specs.declared.problems.Problem.{Problem}
use Rattle.ask_history.specs.Sources.{Sources}
use Rattle.ask_history.specs.Journal.{findings, is_close, is_closed}
use Rattle.ask_history.specs.declared.answers.Answer.{Answer}
use Rattle.ask_history.specs.declared.calls.Call.{Call}
use Rattle.ask_history.specs.declared.events.Event.{Event}
use Rattle.ask_history.specs.declared.events.Event.TheVariants.{Close}
use Rattle.ask_history.specs.declared.script.Script.{Script}
use Rattle.client_scripts.specs.OfScripts.{OfScripts}
use Rattle.report_hub.specs.Telling.{ReporterState}
use Rattle.report_hub.specs.Told.{WasToldMost}
use Rattle.report_hub.proofs.Reports.{WasToldMost-none}
use Rattle.session_input.specs.Clients.{clients_reading}
use Rattle.session_input.specs.Reads.{ComesTo}
use Rattle.session_input.specs.declared.refusal.Refusal.{Refusal}
use Rattle.session_input.specs.declared.refusal.Refusal.TheVariants as refusal
use Rattle.session_input.proofs.ClientLemmas.{fault_names_clients}
use Rattle.session_input.proofs.ReadLemmas.{fault_or_told}
use Rattle.session_run.specs.Printed.{Wrote}
use Rattle.session_run.specs.Reading.{CountsReads, HasReadFaults, HasWriteFault}
use Rattle.session_run.specs.Run.{IsSessionEnding}
use Rattle.session_run.specs.Telling.{IsOrNoMemory}
use Rattle.session_run.specs.Words.{mode_of, clients_of}
use Rattle.session_run.specs.declared.ending.Ending.{Ending}
use Rattle.session_run.specs.declared.ending.Ending.TheVariants as ending
use Rattle.session_run.specs.declared.modes.Mode.{Mode}
use Rattle.session_run.specs.declared.modes.Mode.TheVariants.{Alone, Threads, Bad}
use Rattle.session_run.proofs.RunLemmas.{risen_for, told_reads}
use Rattle.session_run.proofs.SessionLemmas.{grew_by_nothing}
use Rattle.transcript.specs.Transcript.{session_text}
use Rattle.session_threads.specs.Owed.{Seen, IsClientsJournal, printed, Completes, IsClientsRun}
use Rattle.session_threads.specs.Reading.{AreReadAs, HaveInput, HasSpawnFault, NamesClientFile}
use Rattle.session_threads.specs.Sessions.{IsSession, RoseIfUnbegun}
use Rattle.session_threads.specs.Written.{EndsAs, WroteAs}
use Rattle.session_threads.specs.declared.fate.Fate.{Fate}
use Rattle.session_threads.specs.declared.fate.Fate.TheVariants as fate

-- ---- a session that came to its end

closed_at : (before behind : List Event) → is_closed (before ++ Close ∷ behind) ≡ true
closed_at [] behind = refl
closed_at (event ∷ before) behind = by (is_close event) (closed_at before behind)
  where
    by : (b : Bool) → is_closed (before ++ Close ∷ behind) ≡ true → (b || is_closed (before ++ Close ∷ behind)) ≡ true
    by true rest = refl
    by false rest = rest

-- how such a run may end, where no line is refused
abbrev IsPlayed : Ending → Type 0
IsPlayed ending.SpawnFault = ⊤
IsPlayed ended = IsSessionEnding ended

module _ (answer_of : Sources → Call → Answer) (problems_of : Sources → Bytes → List Problem) (content : Bytes → Option Bytes) (words : List Bytes) (seen : Seen) where
  completes : (ended : Ending) → IsPlayed ended → HasWriteFault ended seen.put_faults seen.put_faults' → HasSpawnFault ended seen.spawn_faults seen.spawn_faults' → Completes content words seen ended
  completes ending.Done ends writing spawning = λ scripts threads is reads puts spawns. inl refl
  completes ending.NoMemory ends writing spawning = λ scripts threads is reads puts spawns. inr refl
  completes ending.WriteFault ends writing spawning = λ scripts threads is reads puts spawns. absurd (puts writing)
  completes ending.SpawnFault ends writing spawning = λ scripts threads is reads puts spawns. absurd (spawns spawning)
  completes ending.Usage ends writing spawning = absurd ends
  completes (ending.Refused why) ends writing spawning = absurd ends

  no_read_fault : (ended : Ending) → IsPlayed ended → seen.read_faults' ≡ seen.read_faults → HasReadFaults ended seen.read_faults seen.read_faults' seen.last_failed'
  no_read_fault ending.Done ends same = (omega (arith, same), same)
  no_read_fault ending.NoMemory ends same = (omega (arith, same), tt)
  no_read_fault ending.WriteFault ends same = (omega (arith, same), same)
  no_read_fault ending.SpawnFault ends same = (omega (arith, same), same)
  no_read_fault ending.Usage ends same = absurd ends
  no_read_fault (ending.Refused why) ends same = absurd ends

  no_name : (ended : Ending) → IsPlayed ended → NamesClientFile content (clients_of words) ended
  no_name ending.Done ends = tt
  no_name ending.NoMemory ends = tt
  no_name ending.WriteFault ends = tt
  no_name ending.SpawnFault ends = tt
  no_name ending.Usage ends = absurd ends
  no_name (ending.Refused why) ends = absurd ends

  module _ (scripts : List Script) (journal : List Event) (found : List (List Problem)) (threads : mode_of words ≡ Threads) (read : ComesTo content (clients_reading (clients_of words)) (Ok scripts)) (same : seen.read_faults' ≡ seen.read_faults) (reported : WasToldMost (findings problems_of journal) seen.reporter seen.reporter') where
    -- the run, where it is known what began
    began_so : (became : Fate) (ended : Ending) (began : Option (List Script)) → IsSession answer_of problems_of scripts became journal found → IsPlayed ended
        → AreReadAs content (clients_of words) began ended → IsClientsJournal began ended journal → Wrote (printed answer_of problems_of began journal) ended seen.out seen.out'
        → HasWriteFault ended seen.put_faults seen.put_faults' → HasSpawnFault ended seen.spawn_faults seen.spawn_faults' → IsClientsRun answer_of problems_of content words seen ended journal
    began_so became ended began session ends input ran output writing spawning = record {
      began = began;
      input = subst (λ (m : Mode). HaveInput m content (clients_of words) began ended) (sym threads) input;
      ran = ran;
      legal = session.legal;
      settled = session.settled;
      output = output;
      reading = no_read_fault ended ends same;
      named = no_name ended ends;
      writing = writing;
      spawning = spawning;
      complete = completes ended ends writing spawning;
      reported = reported;
    }

    -- what is written of the clients' answers is the transcript
    text_is : (played : List Script) (answers : List (List Answer)) → IsSession answer_of problems_of scripts (fate.Played played answers) journal found
        → session_text played journal answers found ≡ printed answer_of problems_of (Some scripts) journal
    text_is played answers session = λ i. session_text (session.comes.0 i) journal (session.comes.2 i) (session.found_is i)

    closed : OfScripts scripts journal → is_closed journal ≡ true
    closed of = ap is_closed of.shut ∙ closed_at of.before of.behind

    run_ended : (played : List Script) (answers : List (List Answer)) (ended : Ending) → IsSession answer_of problems_of scripts (fate.Played played answers) journal found → IsSessionEnding ended
        → Wrote (session_text played journal answers found) ended seen.out seen.out' → HasWriteFault ended seen.put_faults seen.put_faults' → IsClientsRun answer_of problems_of content words seen ended journal
    run_ended played answers ending.Done session ends wrote writing =
        began_so (fate.Played played answers) ending.Done (Some scripts) session ends (ends, read) session.comes.1
        (subst (λ text. Wrote text ending.Done seen.out seen.out') (text_is played answers session) wrote) writing tt
    run_ended played answers ending.WriteFault session ends wrote writing =
        began_so (fate.Played played answers) ending.WriteFault (Some scripts) session ends (ends, read) session.comes.1
        (subst (λ text. Wrote text ending.WriteFault seen.out seen.out') (text_is played answers session) wrote) writing tt
    run_ended played answers ending.NoMemory session ends wrote writing =
        began_so (fate.Played played answers) ending.NoMemory (Some scripts) session ends (ends, read) (closed session.comes.1)
        (subst (λ text. Wrote text ending.NoMemory seen.out seen.out') (text_is played answers session) wrote) writing tt
    run_ended played answers ending.Usage session ends wrote writing = absurd ends
    run_ended played answers ending.SpawnFault session ends wrote writing = absurd ends
    run_ended played answers (ending.Refused why) session ends wrote writing = absurd ends

    counted : (expected ended : Ending) → ended ≡ expected → HasWriteFault ended seen.put_faults seen.put_faults' → HasWriteFault expected seen.put_faults seen.put_faults'
    counted expected ended is writing = subst (λ (e : Ending). HasWriteFault e seen.put_faults seen.put_faults') is writing

    nothing_more : (text : Bytes) → seen.out' ≡ seen.out → Wrote text ending.NoMemory seen.out seen.out'
    nothing_more text same = subst (λ (now : Option Bytes). Wrote text ending.NoMemory seen.out now) (sym same) (grew_by_nothing text seen.out)

    pub run_of : (became : Fate) (ended : Ending) → IsSession answer_of problems_of scripts became journal found → EndsAs became ended → WroteAs became journal found ended seen.out seen.out'
        → HasWriteFault ended seen.put_faults seen.put_faults' → RoseIfUnbegun became seen.spawn_faults seen.spawn_faults' → IsClientsRun answer_of problems_of content words seen ended journal
    run_of (fate.Played played answers) ended session ends wrote writing rose = run_ended played answers ended session ends wrote writing
    run_of fate.CutShort ended session ends wrote writing rose =
        subst (λ (e : Ending). IsClientsRun answer_of problems_of content words seen e journal) (sym ends)
        (began_so fate.CutShort ending.NoMemory (Some scripts) session tt (tt, read) session.comes (nothing_more _ wrote) (counted ending.NoMemory ended ends writing) tt)
    run_of fate.Unbegun ended session ends wrote writing rose =
        subst (λ (e : Ending). IsClientsRun answer_of problems_of content words seen e journal) (sym ends)
        (began_so fate.Unbegun ending.SpawnFault (Some scripts) session tt (tt, read) session.comes wrote (counted ending.SpawnFault ended ends writing) rose)
    run_of fate.Unopened ended session ends wrote writing rose =
        subst (λ (e : Ending). IsClientsRun answer_of problems_of content words seen e journal) (sym ends)
        (began_so fate.Unopened ending.NoMemory None session tt tt session.comes (nothing_more [] wrote) (counted ending.NoMemory ended ends writing) tt)

-- ---- no session

-- how a run ends in which none begins
abbrev IsEarly : Ending → Type 0
IsEarly ending.Usage = ⊤
IsEarly ending.NoMemory = ⊤
IsEarly (ending.Refused why) = ⊤
IsEarly _ = ⊥

is_early : (mode : Mode) (content : Bytes → Option Bytes) (clients : List Bytes) (ended : Ending) → HaveInput mode content clients None ended → IsEarly ended
is_early Alone content clients ended input = subst IsEarly (sym input.1) tt
is_early Bad content clients ended input = subst IsEarly (sym input.1) tt
is_early Threads content clients ending.NoMemory input = tt
is_early Threads content clients (ending.Refused why) input = tt
is_early Threads content clients ending.Usage input = tt
is_early Threads content clients ending.Done input = absurd input
is_early Threads content clients ending.WriteFault input = absurd input
is_early Threads content clients ending.SpawnFault input = absurd input

no_output : (ended : Ending) (out : Option Bytes) → IsEarly ended → Wrote [] ended out out
no_output ending.Usage out early = refl
no_output (ending.Refused why) out early = refl
no_output ending.NoMemory out early = grew_by_nothing [] out
no_output ending.Done out early = absurd early
no_output ending.WriteFault out early = absurd early
no_output ending.SpawnFault out early = absurd early

no_write_fault : (ended : Ending) (before now : ℕ) → IsEarly ended → now ≡ before → HasWriteFault ended before now
no_write_fault ending.Usage before now early same = same
no_write_fault (ending.Refused why) before now early same = same
no_write_fault ending.NoMemory before now early same = same
no_write_fault ending.Done before now early same = absurd early
no_write_fault ending.WriteFault before now early same = absurd early
no_write_fault ending.SpawnFault before now early same = absurd early

no_spawn_fault : (ended : Ending) (before now : ℕ) → IsEarly ended → HasSpawnFault ended before now
no_spawn_fault ending.Usage before now early = tt
no_spawn_fault (ending.Refused why) before now early = tt
no_spawn_fault ending.NoMemory before now early = tt
no_spawn_fault ending.Done before now early = absurd early
no_spawn_fault ending.WriteFault before now early = absurd early
no_spawn_fault ending.SpawnFault before now early = absurd early

names_refused : (mode : Mode) (content : Bytes → Option Bytes) (clients : List Bytes) (ended : Ending) → HaveInput mode content clients None ended → NamesClientFile content clients ended
names_refused Threads content clients (ending.Refused (refusal.ReadFault name)) input = fault_names_clients content clients name input
names_refused Alone content clients (ending.Refused (refusal.ReadFault name)) input = let e = input.1 in cc
names_refused Bad content clients (ending.Refused (refusal.ReadFault name)) input = let e = input.1 in cc
names_refused mode content clients (ending.Refused (refusal.BadScript name line)) input = tt
names_refused mode content clients (ending.Refused (refusal.Limit limit value)) input = tt
names_refused mode content clients (ending.Refused (refusal.NotUtf8 name byte)) input = tt
names_refused mode content clients ending.Done input = tt
names_refused mode content clients ending.Usage input = tt
names_refused mode content clients ending.WriteFault input = tt
names_refused mode content clients ending.SpawnFault input = tt
names_refused mode content clients ending.NoMemory input = tt

completes_refused : (content : Bytes → Option Bytes) (words : List Bytes) (seen : Seen) (ended : Ending) → HaveInput (mode_of words) content (clients_of words) None ended
    → HasReadFaults ended seen.read_faults seen.read_faults' seen.last_failed' → Completes content words seen ended
completes_refused content words seen ended input reading scripts threads is reads puts spawns = by ended (subst (λ (m : Mode). HaveInput m content (clients_of words) None ended) threads input) reading
  where
    by : (e : Ending) → AreReadAs content (clients_of words) None e → HasReadFaults e seen.read_faults seen.read_faults' seen.last_failed' → (e ≡ ending.Done) ⊎ (e ≡ ending.NoMemory)
    by ending.NoMemory refused read = inr refl
    by (ending.Refused why) refused read =
        absurd (reads (risen_for why seen.read_faults seen.read_faults' seen.last_failed' (fault_or_told content (clients_reading (clients_of words)) scripts why is refused) read.1))
    by ending.Done refused read = absurd refused
    by ending.Usage refused read = absurd refused
    by ending.WriteFault refused read = absurd refused
    by ending.SpawnFault refused read = absurd refused

pub run_refused : (answer_of : Sources → Call → Answer) (problems_of : Sources → Bytes → List Problem) (content : Bytes → Option Bytes) (words : List Bytes) (seen : Seen) (ended : Ending)
    → HaveInput (mode_of words) content (clients_of words) None ended → CountsReads ended seen.read_faults seen.read_faults' seen.last_failed'
    → seen.put_faults' ≡ seen.put_faults → seen.out' ≡ seen.out → seen.reporter' ≡ seen.reporter → IsClientsRun answer_of problems_of content words seen ended []
run_refused answer_of problems_of content words seen ended input reads puts out reporter =
    let reading = told_reads ended seen.read_faults seen.read_faults' seen.last_failed' reads in
    let early : IsEarly ended = is_early (mode_of words) content (clients_of words) ended input in record {
      began = None;
      input = input;
      ran = refl;
      legal = refl;
      settled = refl;
      output = subst (λ (now : Option Bytes). Wrote [] ended seen.out now) (sym out) (no_output ended seen.out early);
      reading = reading;
      named = names_refused (mode_of words) content (clients_of words) ended input;
      writing = no_write_fault ended seen.put_faults seen.put_faults' early puts;
      spawning = no_spawn_fault ended seen.spawn_faults seen.spawn_faults' early;
      complete = completes_refused content words seen ended input reading;
      reported = subst (λ (now : ReporterState). WasToldMost [] seen.reporter now) (sym reporter) (WasToldMost-none seen.reporter);
    }

-- ---- the line for the user may end a refused run out of memory

out_of_memory_input : (mode : Mode) (content : Bytes → Option Bytes) (clients : List Bytes) (began : Option (List Script)) (why : Refusal) → HaveInput mode content clients began (ending.Refused why) → HaveInput mode content clients began ending.NoMemory
out_of_memory_input Threads content clients None why input = tt
out_of_memory_input Threads content clients (Some scripts) why input = absurd input.0
out_of_memory_input Alone content clients began why input = let e = input.1 in cc
out_of_memory_input Bad content clients began why input = let e = input.1 in cc

out_of_memory_ran : (began : Option (List Script)) (why : Refusal) (journal : List Event) → IsClientsJournal began (ending.Refused why) journal → IsClientsJournal began ending.NoMemory journal
out_of_memory_ran None why journal ran = ran
out_of_memory_ran (Some scripts) why journal ran = ap is_closed ran.shut ∙ closed_at ran.before ran.behind

pub still_run : (answer_of : Sources → Call → Answer) (problems_of : Sources → Bytes → List Problem) (content : Bytes → Option Bytes) (words : List Bytes) (seen : Seen) (ended telling : Ending) (journal : List Event)
    → IsOrNoMemory ended telling → IsClientsRun answer_of problems_of content words seen ended journal → IsClientsRun answer_of problems_of content words seen telling journal
still_run answer_of problems_of content words seen ended telling journal told run = by ended told run
  where
    by : (e : Ending) → IsOrNoMemory e telling → IsClientsRun answer_of problems_of content words seen e journal → IsClientsRun answer_of problems_of content words seen telling journal
    by ending.Done same r = subst (λ (e : Ending). IsClientsRun answer_of problems_of content words seen e journal) (sym same) r
    by ending.Usage same r = subst (λ (e : Ending). IsClientsRun answer_of problems_of content words seen e journal) (sym same) r
    by ending.WriteFault same r = subst (λ (e : Ending). IsClientsRun answer_of problems_of content words seen e journal) (sym same) r
    by ending.NoMemory same r = subst (λ (e : Ending). IsClientsRun answer_of problems_of content words seen e journal) (sym same) r
    by ending.SpawnFault same r = subst (λ (e : Ending). IsClientsRun answer_of problems_of content words seen e journal) (sym same) r
    by (ending.Refused why) (inl same) r = subst (λ (e : Ending). IsClientsRun answer_of problems_of content words seen e journal) (sym same) r
    by (ending.Refused why) (inr none) r =
        subst (λ (e : Ending). IsClientsRun answer_of problems_of content words seen e journal) (sym none) (record {
          began = r.began;
          input = out_of_memory_input (mode_of words) content (clients_of words) r.began why r.input;
          ran = out_of_memory_ran r.began why journal r.ran;
          legal = r.legal;
          settled = r.settled;
          output = rw r.output (grew_by_nothing (printed answer_of problems_of r.began journal) seen.out);
          reading = (r.reading.0, tt);
          named = tt;
          writing = r.writing;
          spawning = tt;
          complete = λ scripts threads is reads puts spawns. inr refl;
          reported = r.reported;
        })
