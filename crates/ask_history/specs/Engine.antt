-- What the calls of an engine do.
use Rattle.std.specs.Prelude.{◌≡◌, ◌<◌, ◌≤◌, ⊤, ℕ, Bool, true, false, not, ◌&&◌, ◌||◌, ◌==◌, if◌then◌else◌, List, [], ◌∷◌, ◌++◌, length, filter, All, Option, Some, None, is_some, codes}
use Rattle.std.specs.List.{list_all}
use Rattle.std.specs.Str.{bytes_eq}
use Rattle.pc_terms.specs.Bytes.{less_sign, max_source_bytes}
use Rattle.pc_terms.specs.declared.problems.Problem.{Problem}
use Rattle.ask_history.specs.Sources.{Bytes, Sources, is_mutation, mutated, unchecked, some_of}
use Rattle.ask_history.specs.declared.calls.Call.{Call}
use Rattle.ask_history.specs.declared.calls.Call.TheVariants.{Reload, Remove, TypeAt, MembersAt, ScopeAt, LinkAt, Structure, LoadedTyped}
use Rattle.ask_history.specs.declared.answers.Answer.{Answer}
use Rattle.ask_history.specs.declared.answers.Answer.TheVariants as answer
use Rattle.ask_history.specs.declared.engine.Fed.{Fed}
use Rattle.ask_history.specs.declared.engine.Fed.TheVariants as fed
use Rattle.ask_history.specs.declared.engine.Effect.{Effect}
use Rattle.ask_history.specs.declared.engine.Effect.TheVariants.{Applies, Dropped}
use Rattle.ask_history.specs.declared.engine.Turn.{Turn}
use Rattle.ask_history.specs.declared.engine.Turn.TheVariants as turn

-- What is known of an engine between two calls.
pub record EngineState : Type 0 where
  -- the sources in force
  pub sources : Sources
  -- the asks that were fed and neither settled nor stopped, with their tickets, in the order of feeding; the last is on top
  pub asks : List (ℕ × Call)
  -- a mutation that was fed and is not yet in force, with its ticket
  pub staged : Option (ℕ × Call)
  -- the files that were checked since a mutation last took effect, and those whose check found no memory
  pub checked : List Bytes
  pub skipped : List Bytes

-- An engine to which nothing was fed.
abbrev pub fresh_state : EngineState
fresh_state = record { sources = []; asks = []; staged = None; checked = []; skipped = [] }

-- ---- what a call may be asked to do

-- the texts of a call are no longer than a file may be
abbrev pub HasFileSizes : Call → Type 0
HasFileSizes (Reload pairs) = All (λ pair. length pair.1 ≤ max_source_bytes) pairs
HasFileSizes _ = ⊤

-- a name that a file may have: it is not empty and does not begin with `<`, as the name of the prelude does
abbrev pub is_file_name : Bytes → Bool
is_file_name [] = false
is_file_name (b ∷ bs) = not (b == less_sign)

-- What an ask asks, by its word in a script, the file that it is about, and the offset in it.
pub record Asked : Type 0 where
  pub word : Bytes
  pub file : Bytes
  pub offset : Option ℕ

-- a mutation asks nothing
abbrev pub asked : Call → Asked
asked (TypeAt file offset) = record { word = codes "type"; file = file; offset = Some offset }
asked (MembersAt file offset) = record { word = codes "members"; file = file; offset = Some offset }
asked (ScopeAt file offset) = record { word = codes "scope"; file = file; offset = Some offset }
asked (LinkAt file offset) = record { word = codes "link"; file = file; offset = Some offset }
asked (Structure file) = record { word = codes "structure"; file = file; offset = None }
asked (LoadedTyped file) = record { word = codes "typed"; file = file; offset = None }
asked _ = record { word = []; file = []; offset = None }

abbrev pub asked_file : Call → Bytes
asked_file call = (asked call).file

-- every file that a call names has a name that a file may have
abbrev pub has_file_names : Call → Bool
has_file_names (Reload pairs) = list_all (λ pair. is_file_name pair.0) pairs
has_file_names (Remove names) = list_all is_file_name names
has_file_names ask = is_file_name (asked_file ask)

abbrev pub is_open_in : List (ℕ × Call) → ℕ → Bool
is_open_in [] ticket = false
is_open_in (ask ∷ asks) ticket = (ask.0 == ticket) || is_open_in asks ticket

abbrev pub is_staged : Option (ℕ × Call) → ℕ → Bool
is_staged None ticket = false
is_staged (Some mutation) ticket = mutation.0 == ticket

-- ---- what each call does

-- An ask goes on top of the open ones, a mutation is staged; out of memory nothing changes.
abbrev pub FeedGives : EngineState → ℕ → Call → Fed → EngineState → Type 0
FeedGives old ticket call fed.Taken new =
    (is_mutation call ≡ false) × (new ≡ record old { asks = old.asks ++ (ticket, call) ∷ [] })
FeedGives old ticket call fed.Staged new =
    (is_mutation call ≡ true) × (new ≡ record old { staged = Some (ticket, call) })
FeedGives old ticket call fed.NoMemory new = new ≡ old

-- the ask on top is the last one
abbrev pub IsOnTop : List (ℕ × Call) → ℕ × Call → Type 0
IsOnTop asks ask = (below : List (ℕ × Call)) × (asks ≡ below ++ ask ∷ [])

-- the ask of this ticket is on top
abbrev pub IsTicketOnTop : List (ℕ × Call) → ℕ → Type 0
IsTicketOnTop asks ticket = (call : Call) × IsOnTop asks (ticket, call)

-- The files that a check in the background has still to come to, in load order: neither checked nor skipped.
abbrev pub files_due : EngineState → List Bytes
files_due state = unchecked (state.checked ++ state.skipped) state.sources

-- no call is open and nothing is left to check
abbrev pub is_idle : EngineState → Bool
is_idle state = not (some_of state.asks || some_of (files_due state))

-- No call is open, and this file is the first that is due.
abbrev pub IsCheckOf : EngineState → Bytes → Type 0
IsCheckOf state file = (state.asks ≡ []) × (rest : List Bytes) × (files_due state ≡ file ∷ rest)

-- What a turn comes to. It changes no source and no open call.
--   `Safe` says that the ask on top, or a check, goes on; `Idle`, that there is nothing to do.
--   `Ready` answers the ask on top over the sources in force, and `NoMemory` names that ask.
--   `Checked` tells the problems of the first file that is due, and that file is then checked; out of memory it is skipped.
abbrev pub TurnGives : (Sources → Call → Answer) → (Sources → Bytes → List Problem) → EngineState → Turn → EngineState → Type 0
TurnGives answer_of problems_of old turn.Safe new = (is_idle old ≡ false) × (new ≡ old)
TurnGives answer_of problems_of old (turn.Ready ticket found) new =
    ((call : Call) × IsOnTop old.asks (ticket, call) × (found ≡ answer_of old.sources call)) × (new ≡ old)
TurnGives answer_of problems_of old (turn.Checked file problems) new =
    IsCheckOf old file × (problems ≡ problems_of old.sources file) × (new ≡ record old { checked = old.checked ++ file ∷ [] })
TurnGives answer_of problems_of old turn.Idle new = (is_idle old ≡ true) × (new ≡ old)
TurnGives answer_of problems_of old (turn.NoMemory ticket) new = IsTicketOnTop old.asks ticket × (new ≡ old)
TurnGives answer_of problems_of old (turn.CheckNoMemory file) new =
    IsCheckOf old file × (new ≡ record old { skipped = old.skipped ++ file ∷ [] })

-- a turn that answers `Safe` lowers the number of those that may be left
abbrev pub Lowers : Turn → ℕ → ℕ → Type 0
Lowers turn.Safe before now = now < before
Lowers _ before now = ⊤

-- a mutation put in force: nothing is checked yet of the new sources
abbrev pub in_force : EngineState → Call → EngineState
in_force old mutation = record old { sources = mutated old.sources mutation; staged = None; checked = []; skipped = [] }

-- the staged mutation put in force, or dropped
abbrev pub mutation_settled : EngineState → Effect → Option (ℕ × Call) → EngineState
mutation_settled old Applies (Some mutation) = in_force old mutation.1
mutation_settled old Dropped (Some mutation) = record old { staged = None }
mutation_settled old effect None = old

-- the open asks without that of this ticket
abbrev pub ask_settled : EngineState → ℕ → EngineState
ask_settled old ticket = record old { asks = filter (λ ask. not (ask.0 == ticket)) old.asks }

-- A staged mutation is put in force or dropped; an open ask is taken off, wherever it stands.
abbrev pub settled_state : EngineState → ℕ → Effect → EngineState
settled_state old ticket effect = if is_staged old.staged ticket then mutation_settled old effect old.staged else ask_settled old ticket

-- No call is open after a stop. What is staged stays staged.
abbrev pub stopped_state : EngineState → EngineState
stopped_state old = record old { asks = [] }

-- ---- answers

-- the word of the asks that find such an answer
abbrev pub finding_word : Answer → Bytes
finding_word (answer.Tree tree) = codes "type"
finding_word (answer.Members members) = codes "members"
finding_word answer.NoMembers = codes "members"
finding_word (answer.Scope names) = codes "scope"
finding_word (answer.Link where_ span sym) = codes "link"
finding_word answer.NoLink = codes "link"
finding_word (answer.Outline definitions) = codes "structure"
finding_word (answer.Loaded definitions problems) = codes "typed"
finding_word _ = codes "nothing"

-- The answers that an engine may find for an ask whose file is loaded.
abbrev pub can_find : Call → Answer → Bool
can_find call answer.NoTree = is_some (asked call).offset
can_find call answer.Unread = true
can_find call found = bytes_eq (asked call).word (finding_word found)
