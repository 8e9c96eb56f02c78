-- What a session of clients comes to.
use Rattle.std.specs.Prelude.{◌≡◌, ⊤, ℕ, ◌+◌, ◌==◌, true, if◌then◌else◌, IsTrue, List, [], ◌∷◌, ◌++◌, map}
use Rattle.pc_terms.specs.Bytes.{Bytes}
use Rattle.pc_terms.specs.declared.problems.Problem.{Problem}
use Rattle.pc_outside.specs.Outside.{Rose}
use Rattle.ask_history.specs.Sources.{Sources}
use Rattle.ask_history.specs.Journal.{all_settled, is_closed, replies_to, findings}
use Rattle.ask_history.specs.Legal.{is_legal}
use Rattle.ask_history.specs.declared.answers.Answer.{Answer}
use Rattle.ask_history.specs.declared.calls.Call.{Call}
use Rattle.ask_history.specs.declared.events.Event.{Event}
use Rattle.ask_history.specs.declared.events.Event.TheVariants.{Accept, Close}
use Rattle.ask_history.specs.declared.script.Script.{Script}
use Rattle.report_hub.specs.Telling.{Finding}
use Rattle.client_scripts.specs.OfScripts.{OfScripts}
use Rattle.session_threads.specs.declared.fate.Fate.{Fate}
use Rattle.session_threads.specs.declared.fate.Fate.TheVariants as fate

-- ---- answers

-- the ticket of a client's call that an event accepts
abbrev pub ticket_in : ℕ → Event → List ℕ
ticket_in c (Accept ticket client tag call) = if client == c then ticket ∷ [] else []
ticket_in c _ = []

-- The tickets of a client's accepted calls, in order.
abbrev pub tickets_of : ℕ → List Event → List ℕ
tickets_of c [] = []
tickets_of c (event ∷ journal) = ticket_in c event ++ tickets_of c journal

-- The answers of the settled calls of a client, in the order in which they were accepted: the reply where each settles.
abbrev pub answers_to : (Sources → Call → Answer) → List Event → ℕ → List Answer
answers_to answer_of journal c = replies_to answer_of journal (tickets_of c journal)

-- The answers of clients with these scripts, a row for each, of which the first has this number.
abbrev pub rows_from : (Sources → Call → Answer) → List Event → ℕ → List Script → List (List Answer)
rows_from answer_of journal c [] = []
rows_from answer_of journal c (script ∷ scripts) = answers_to answer_of journal c ∷ rows_from answer_of journal (c + 1) scripts

abbrev pub rows_of : (Sources → Call → Answer) → List Event → List Script → List (List Answer)
rows_of answer_of journal scripts = rows_from answer_of journal 0 scripts

-- ---- checks

-- The problems that the checks of a journal find, in order, each over the sources in force there.
abbrev pub problems_in : (Sources → Bytes → List Problem) → List Event → List (List Problem)
problems_in problems_of journal = map (λ (finding : Finding). finding.1) (findings problems_of journal)

-- ---- the whole

-- What the journal is, by what became of the clients: that of clients that play these scripts, and each has the replies to its
-- calls; or shut down; or the shutdown alone; or nothing happened.
abbrev pub Comes : (Sources → Call → Answer) → List Script → Fate → List Event → Type 0
Comes answer_of scripts (fate.Played played answers) journal = (played ≡ scripts) × OfScripts scripts journal × (answers ≡ rows_of answer_of journal scripts)
Comes answer_of scripts fate.CutShort journal = is_closed journal ≡ true
Comes answer_of scripts fate.Unbegun journal = journal ≡ Close ∷ []
Comes answer_of scripts fate.Unopened journal = journal ≡ []

-- What a session of clients with these scripts comes to: its journal is legal, and every accepted call is settled in it. What was
-- found is what its checks find.
pub record IsSession (answer_of : Sources → Call → Answer) (problems_of : Sources → Bytes → List Problem) (scripts : List Script) (became : Fate) (journal : List Event) (found : List (List Problem)) : Type 0 where
  pub comes : Comes answer_of scripts became journal
  pub legal : IsTrue (is_legal journal)
  pub settled : all_settled journal ≡ true
  pub found_is : found ≡ problems_in problems_of journal

-- No client began only where a thread was refused.
abbrev pub RoseIfUnbegun : Fate → ℕ → ℕ → Type 0
RoseIfUnbegun fate.Unbegun before now = Rose before now
RoseIfUnbegun _ before now = ⊤
