-- What is left of a session once its passes have met.
use Rattle.std.proofs.Common.{◌≡◌, ℕ, zero, suc, ◌+◌, Bool, true, false, ◌==◌, cond, IsTrue, List, [], ◌∷◌, map, length, slice_get, Option, Some, None, is_some, refl, sym, ap, ◌∙◌, subst, arith, Vec, Global}
use mathlib.Core.List.{IsPrefix}
use Rattle.std.specs.Prelude.{IfSome, option_map}
use Rattle.std.specs.List.{position_from}
use Rattle.std.proofs.lemmas.Bool.{eqb-true}
use Rattle.std.specs.List.{AllZip}
use Rattle.pc_terms.specs.declared.problems.Problem.{Problem}
use Rattle.pc_outside.specs.Outside.{Rose}
use Rattle.ask_history.specs.Sources.{Bytes, Sources}
use Rattle.ask_history.specs.Journal.{findings, is_closed, is_close}
use Rattle.ask_history.specs.Legal.{is_legal}
use Rattle.ask_history.specs.declared.answers.Answer.{Answer}
use Rattle.ask_history.specs.declared.calls.Call.{Call}
use Rattle.ask_history.specs.declared.events.Event.{Event}
use Rattle.ask_history.specs.declared.events.Event.TheVariants.{Accept, Cancel, Close, Settle, Checked}
use Rattle.work_queue.specs.Indexes.{close_index}
use Rattle.ask_desk.specs.Answers.{closing}
use Rattle.ask_desk.specs.Facts.{IsPass}
use Rattle.ask_desk.specs.Passes.{Closes}
use Rattle.work_queue.proofs.EventIndexes.{list_any-index_of}
use Rattle.ask_history.specs.declared.script.Script.{Script}
use Rattle.report_hub.specs.Telling.{Finding}
use Rattle.counting_word.specs.declared.view.Entry.{Entry}
use Rattle.counting_word.specs.declared.view.View.{View}
use Rattle.counting_word.specs.History.{journal_of, entries_by, engine_number, are_made}
use Rattle.counting_word.specs.Calls.{Meets}
use Rattle.desk_driver.specs.Drives.{findings_in}
use Rattle.session_threads.specs.Clients.{Each, HasPlayed, IsMet, scripts_played, answers_played}
use Rattle.session_threads.specs.Ended.{IsShut, entries_of}
use Rattle.session_threads.specs.Left.{IsFateOf, FateFrom, fate_at}
use Rattle.session_threads.specs.Parts.{AllEnded, ShutAt}
use Rattle.session_threads.specs.Served.{HasServed}
use Rattle.session_threads.specs.Sessions.{Comes, IsSession, RoseIfUnbegun}
use Rattle.session_threads.specs.declared.clients.Played.{Played}
use Rattle.session_threads.specs.declared.closing.Ended.{Ended}
use Rattle.session_threads.specs.declared.fate.Fate.{Fate}
use Rattle.session_threads.specs.declared.fate.Fate.TheVariants as fate
use Rattle.session_threads.proofs.Full.{nothing_more, whole_seen, whole_journal, all_are_settled}
use Rattle.session_threads.proofs.Findings.{all_found}
use Rattle.session_threads.proofs.Makers.{IsWhole}
use Rattle.session_threads.proofs.Wholes.{of_these, rows_are_replies}

module _ (answer_of : Sources → Call → Answer) (problems_of : Sources → Bytes → List Problem) (made : ℕ) where
  -- ---- the engine's pass meets the one that shut the session down

  module _ (engine closer met closer' : View) (found : List (List Problem)) (served : HasServed answer_of problems_of made engine found) (shut : IsShut closer) (meets : Meets engine closer met closer') where
    pub met_seen : met.seen ≡ closer.seen
    met_seen = whole_seen closer.seen met.seen meets.first.learns meets.first.knows.legal shut.shut shut.settled

    pub closer_seen : closer'.seen ≡ closer.seen
    closer_seen = sym meets.same ∙ met_seen

    pub engine_begins : IsPrefix engine.seen closer.seen
    engine_begins = subst (λ (es : List Entry). IsPrefix engine.seen es) met_seen meets.first.begins

    met_named : met.name.number ≡ Some engine_number
    met_named = ap (λ n. n.number) meets.first.name ∙ served.named

    pub engine_own : entries_by engine_number engine.seen ≡ entries_by engine_number closer.seen
    engine_own = sym served.own ∙ sym (ap (λ n. n.own) meets.first.name) ∙ meets.first.knows.own engine_number met_named ∙ ap (entries_by engine_number) met_seen

    pub all_made : IsTrue (are_made made closer.seen)
    all_made =
        subst (λ (es : List Entry). IsTrue (are_made made es)) met_seen
        (subst (λ n. IsTrue (are_made n met.seen)) (ap (λ n. n.made) meets.first.name ∙ served.counted) (meets.first.knows.authors met_named))

    pub told_is : findings_in engine.seen ≡ findings problems_of (journal_of closer.seen)
    told_is =
        let begins = engine_begins in
        all_found answer_of problems_of engine.seen begins.0 served.rightful served.right served.shut (subst (λ (es : List Entry). IsTrue (is_legal (journal_of es))) (sym begins.1) shut.knows.legal)
        ∙ ap (λ es. findings problems_of (journal_of es)) begins.1

    module _ (journal : List Event) (begins : IsPrefix (journal_of met.seen) journal) (legal : IsTrue (is_legal journal)) where
      pub journal_is : journal ≡ journal_of closer.seen
      journal_is =
          whole_journal (journal_of closer.seen) journal (subst (λ (es : List Entry). IsPrefix (journal_of es) journal) met_seen begins) legal shut.shut shut.settled

      pub session_is : (scripts : List Script) (became : Fate) → Comes answer_of scripts became (journal_of closer.seen) → IsSession answer_of problems_of scripts became journal found
      session_is scripts became comes =
          subst (λ (j : List Event). IsSession answer_of problems_of scripts became j found) (sym journal_is)
          (record {
            comes = comes;
            legal = shut.knows.legal;
            settled = all_are_settled (journal_of closer.seen) shut.knows.legal shut.settled;
            found_is = served.found_is ∙ ap (map (λ (finding : Finding). finding.1)) told_is;
          })

      pub told_of : findings_in engine.seen ≡ findings problems_of journal
      told_of = told_is ∙ ap (findings problems_of) (sym journal_is)

-- ---- the clients

-- an element of one list and its partner in the other
pub record HasPartner {X Y : Type 0} (R : X → Y → Type 0) (ys : List Y) (i : ℕ) (x : X) : Type 0 where
  pub partner : Y
  pub there : slice_get ys i ≡ Some partner
  pub holds : R x partner

pub partner_of : {X Y : Type 0} (R : X → Y → Type 0) (xs : List X) (ys : List Y) (i : ℕ) (x : X) → AllZip R xs ys → slice_get xs i ≡ Some x → HasPartner R ys i x
partner_of R [] ys i x h there = cc
partner_of R (z ∷ xs) [] i x h there = absurd h
partner_of R (z ∷ xs) (y ∷ ys) zero x h there = let same : z ≡ x = cc in record { partner = y; there = refl; holds = subst (λ v. R v y) same h.0 }
partner_of R (z ∷ xs) (y ∷ ys) (suc i) x h there =
    let tail : slice_get xs i ≡ Some x = there in
    let p = partner_of R xs ys i x h.1 tail in record { partner = p.partner; there = p.there; holds = p.holds }

module _ {B : Type 0} (first last : List Entry) where
  same_scripts : (all met : List (Played B)) → AllZip (IsMet first last) all met → scripts_played met ≡ scripts_played all
  same_scripts [] [] h = refl
  same_scripts [] (m ∷ met) h = absurd h
  same_scripts (a ∷ all) [] h = absurd h
  same_scripts (a ∷ all) (m ∷ met) h = λ i. h.0.script i ∷ same_scripts all met h.1 i

  same_answers : (all met : List (Played B)) → AllZip (IsMet first last) all met → answers_played met ≡ answers_played all
  same_answers [] [] h = refl
  same_answers [] (m ∷ met) h = absurd h
  same_answers (a ∷ all) [] h = absurd h
  same_answers (a ∷ all) (m ∷ met) h = λ i. h.0.answers i ∷ same_answers all met h.1 i

module _ {B : Type 0} (answer_of : Sources → Call → Answer) (problems_of : Sources → Bytes → List Problem) (scripts : List Script) (ended : Ended B) (engine met closer closer' spare spare' last : View) (found : List (List Problem))
    (served : HasServed answer_of problems_of (length scripts + 2) engine found) (all : AllEnded scripts ended spare) (meets : Meets engine ended.closing met closer) (spares : Meets closer spare closer' spare') where
  abbrev history : List Entry
  history = ended.closing.seen

  abbrev shut_is : IsShut ended.closing
  shut_is = all.ended_is.shut

  closer_all : closer.seen ≡ history
  closer_all = closer_seen answer_of problems_of (length scripts + 2) engine ended.closing met closer found served shut_is meets

  spare_all : spare'.seen ≡ history
  spare_all = whole_seen history spare'.seen (subst (λ (es : List Entry). IsPrefix es spare'.seen) closer_all spares.second.learns) spares.second.knows.legal shut_is.shut shut_is.settled

  closer_still : closer'.seen ≡ history
  closer_still = spares.same ∙ spare_all

  spare_own : entries_by (length scripts + 1) history ≡ []
  spare_own =
      ap (entries_by (length scripts + 1)) (sym spare_all)
      ∙ sym (spares.second.knows.own (length scripts + 1) (ap (λ n. n.number) spares.second.name ∙ all.spare_is.named))
      ∙ ap (λ n. n.own) spares.second.name ∙ all.spare_is.unmade

  closer_own : entries_by (length scripts) history ≡ entries_of (length scripts) (closing (journal_of all.ended_is.before))
  closer_own = sym (shut_is.knows.own (length scripts) all.ended_is.named) ∙ all.ended_is.own

  module _ (clients : List (Played B)) (each : Each (HasPlayed all.ended_is.before) clients) (scripted : scripts_played clients ≡ scripts) (others : List (Played B)) (zip : AllZip (IsMet closer'.seen last.seen) clients others) where
    -- what a client made stands in the whole history, and all of it is its own
    client_own : (c : ℕ) (client : Played B) → slice_get clients c ≡ Some client → client.pass.name.own ≡ entries_by c history
    client_own c client there =
        let p = partner_of (IsMet closer'.seen last.seen) clients others c client zip there in
        let all_seen : p.partner.pass.seen ≡ history =
        whole_seen history p.partner.pass.seen (subst (λ (es : List Entry). IsPrefix es p.partner.pass.seen) closer_still p.holds.learned) p.holds.knows.legal shut_is.shut shut_is.settled in
        sym (ap (λ n. n.own) p.holds.pass.name)
        ∙ p.holds.knows.own c (ap (λ n. n.number) p.holds.pass.name ∙ (each c client there).named)
        ∙ ap (entries_by c) all_seen

    whole_is : IsWhole answer_of problems_of scripts clients all.ended_is.before engine.seen history
    whole_is = record {
      legal = shut_is.knows.legal;
      shut = shut_is.shut;
      scripted = scripted;
      behind = all.ended_is.seen;
      begins = engine_begins answer_of problems_of (length scripts + 2) engine ended.closing met closer found served shut_is meets;
      right = served.right;
      engine = engine_own answer_of problems_of (length scripts + 2) engine ended.closing met closer found served shut_is meets;
      made = all_made answer_of problems_of (length scripts + 2) engine ended.closing met closer found served shut_is meets;
      closer = closer_own;
      spare = spare_own;
      played = each;
      mine = client_own;
    }

    came : (became : Fate) → IsFateOf others became → Comes answer_of scripts became (journal_of history)
    came (fate.Played given rows) is =
        let answered : map Some rows ≡ answers_played clients = is.1 ∙ same_answers closer'.seen last.seen clients others zip in (
          is.0 ∙ same_scripts closer'.seen last.seen clients others zip ∙ scripted,
          of_these answer_of problems_of scripts clients all.ended_is.before engine.seen history whole_is rows answered,
          rows_are_replies answer_of problems_of scripts clients all.ended_is.before engine.seen history whole_is rows answered,
        )
    came fate.CutShort is = shut_is.shut
    came fate.Unbegun is = absurd is
    came fate.Unopened is = absurd is

  pub comes_played : (became : Fate) → FateFrom closer'.seen last.seen (option_map (λ (v : Vec (Played B) Global). v.items) ended.clients) became → Comes answer_of scripts became (journal_of history)
  comes_played became from = by ended.clients all.ended_is.played all.scripted from
    where
      by : (o : Option (Vec (Played B) Global)) → IfSome o (λ (v : Vec (Played B) Global). Each (HasPlayed all.ended_is.before) v.items) → IfSome o (λ (v : Vec (Played B) Global). scripts_played v.items ≡ scripts)
          → FateFrom closer'.seen last.seen (option_map (λ (v : Vec (Played B) Global). v.items) o) became → Comes answer_of scripts became (journal_of history)
      by None each scripted is = subst (λ (b : Fate). Comes answer_of scripts b (journal_of history)) (sym is) shut_is.shut
      by (Some v) each scripted (others, zip, is) = came v.items each scripted others zip became is

  pub left_is_played : (became : Fate) → FateFrom closer'.seen last.seen (option_map (λ (v : Vec (Played B) Global). v.items) ended.clients) became
      → (journal : List Event) → IsPrefix (journal_of met.seen) journal → IsTrue (is_legal journal) → IsSession answer_of problems_of scripts became journal found
  left_is_played became from journal begins legal =
      session_is answer_of problems_of (length scripts + 2) engine ended.closing met closer found served shut_is meets journal begins legal scripts became (comes_played became from)

-- ---- how a thread was refused

pub rose_if_played : {B : Type 0} (first last : List Entry) (clients : Option (List (Played B))) (became : Fate) → FateFrom first last clients became → (before now : ℕ) → RoseIfUnbegun became before now
rose_if_played first last None became is before now = subst (λ (b : Fate). RoseIfUnbegun b before now) (sym is) tt
rose_if_played first last (Some clients) (fate.Played scripts answers) is before now = tt
rose_if_played first last (Some clients) fate.CutShort is before now = tt
rose_if_played first last (Some clients) fate.Unopened is before now = tt
rose_if_played first last (Some clients) fate.Unbegun is before now = absurd is.2

pub rose_if_unbegun : (index before now : ℕ) → Rose before now → RoseIfUnbegun (fate_at index) before now
rose_if_unbegun index before now rose = by (index == 0)
  where
    by : (b : Bool) → RoseIfUnbegun (cond b fate.Unbegun fate.CutShort) before now
    by true = rose
    by false = tt

-- ---- a session that no client began

-- the shutdown stands first, where it has this journal index, and then it stands alone
no_first : (n : ℕ) (events : List Event) → position_from is_close (suc n) events ≡ Some 0 → ⊥
no_first n [] k = cc
no_first n (e ∷ events) k = at (is_close e) (no_first (suc n) events) k
  where
    at : (b : Bool) → (position_from is_close (suc (suc n)) events ≡ Some 0 → ⊥) → cond b (Some (suc n)) (position_from is_close (suc n + 1) events) ≡ Some 0 → ⊥
    at true rest j = cc
    at false rest j = rest (subst (λ m. position_from is_close m events ≡ Some 0) (let e : suc n + 1 ≡ suc (suc n) = omega arith in e) j)

first_close : (journal : List Event) → close_index journal ≡ Some 0 → (rest : List Event) × (journal ≡ Close ∷ rest)
first_close [] h = cc
first_close (event ∷ journal) h = by event h
  where
    by : (e : Event) → position_from is_close 0 (e ∷ journal) ≡ Some 0 → (rest : List Event) × (e ∷ journal ≡ Close ∷ rest)
    by Close k = (journal, refl)
    by (Accept t client tag call) k = absurd (no_first 0 journal k)
    by (Cancel t) k = absurd (no_first 0 journal k)
    by (Settle t m) k = absurd (no_first 0 journal k)
    by (Checked file) k = absurd (no_first 0 journal k)

pub close_alone : (journal : List Event) → IsTrue (is_legal journal) → close_index journal ≡ Some 0 → journal ≡ Close ∷ []
close_alone journal legal h =
    let first = first_close journal h in
    let none : first.0 ≡ [] = nothing_more (Close ∷ []) first.0 (subst (λ js. IsTrue (is_legal js)) first.1 legal) refl (λ t within. absurd (let no : ⊥ = omega arith in no)) in
    first.1 ∙ ap (λ rest. Close ∷ rest) none

pub comes_unbegun : (answer_of : Sources → Call → Answer) (scripts : List Script) (spare : View) (index : ℕ) → ShutAt spare index → Comes answer_of scripts (fate_at index) (journal_of spare.seen)
comes_unbegun answer_of scripts spare index at = by (index == 0) refl
  where
    by : (b : Bool) → (index == 0) ≡ b → Comes answer_of scripts (cond b fate.Unbegun fate.CutShort) (journal_of spare.seen)
    by true e = close_alone (journal_of spare.seen) at.shut.knows.legal (at.index_is ∙ ap Some (eqb-true index 0 e))
    by false e = at.shut.shut

-- ---- a pass shuts the session down

closed_at : (journal : List Event) (index : ℕ) → close_index journal ≡ Some index → is_closed journal ≡ true
closed_at journal index h = list_any-index_of is_close journal ∙ ap is_some h

pub shut_at : (old new : View) (index : ℕ) → Closes old new index → (number : ℕ) → IsPass new number → ShutAt new index
shut_at old new index closes number is = record {
  shut = record { knows = is.knows; shut = closed_at (journal_of new.seen) index closes.index; settled = closes.settled };
  index_is = closes.index;
}
