-- What is known of the clients of a session, before they play and after.
use Rattle.std.specs.Prelude.{◌≡◌, ℕ, List, map, slice_get, Option, Some, IfSome}
use mathlib.Core.List.{IsPrefix}
use Rattle.ask_history.specs.declared.answers.Answer.{Answer}
use Rattle.ask_history.specs.declared.script.Script.{Script}
use Rattle.client_scripts.specs.Lines.{AreMeant, AllMayPost}
use Rattle.client_scripts.specs.Runs.{Runs, HasEnded, AreAnswers}
use Rattle.counting_word.specs.declared.view.Entry.{Entry}
use Rattle.counting_word.specs.declared.view.View.{View}
use Rattle.counting_word.specs.History.{entries_by}
use Rattle.counting_word.specs.Calls.{Knows}
use Rattle.desk_clients.specs.Seen.{seen_entry}
use Rattle.session_threads.specs.Passes.{IsNew, Meeting}
use Rattle.session_threads.specs.declared.clients.Client.{Client}
use Rattle.session_threads.specs.declared.clients.Played.{Played}

-- P holds of each element with its index.
abbrev pub Each : {X : Type 0} → (ℕ → X → Type 0) → List X → Type 0
Each P xs = (number : ℕ) (x : _) → slice_get xs number ≡ Some x → P number x

-- ---- before they play

-- A client may play this script: its lines may stand there, and its calls may be posted.
pub record CanPlay (script : Script) : Type 0 where
  pub meant : AreMeant script.lines
  pub may : AllMayPost script.lines

abbrev pub CanPlayAll : List Script → Type 0
CanPlayAll scripts = Each (λ number script. CanPlay script) scripts

module _ {B : Type 0} where
  -- A client with a new pass of this number, and a script that it may play.
  pub record IsReady (number : ℕ) (client : Client B) : Type 0 where
    pub new : IsNew client.pass number
    pub can : CanPlay client.script

  -- Each client is ready, and its number is its index.
  abbrev pub AreReady : List (Client B) → Type 0
  AreReady clients = Each IsReady clients

  abbrev pub scripts_to_play : List (Client B) → List Script
  scripts_to_play clients = map (λ client. client.script) clients

  -- ---- once they played

  abbrev pub scripts_played : List (Played B) → List Script
  scripts_played clients = map (λ played. played.script) clients

  abbrev pub answers_played : List (Played B) → List (Option (List Answer))
  answers_played clients = map (λ played. played.answers) clients

  -- A client of this number has played its script until it had seen so much of the history, which begins `bound`, and made
  -- nothing since. Where it has answers it came to the end of its script, and these are the answers of its accepted calls.
  pub record HasPlayed (bound : List Entry) (number : ℕ) (played : Played B) : Type 0 where
    pub named : played.pass.name.number ≡ Some number
    pub knows : Knows played.pass
    pub upto : List Entry
    pub bounded : IsPrefix upto bound
    pub begins : IsPrefix upto played.pass.seen
    pub own : played.pass.name.own ≡ entries_by number upto
    pub runs : Runs number played.script.lines (map seen_entry upto)
    pub ended : IfSome played.answers (λ answers. HasEnded number played.script.lines (map seen_entry upto))
    pub answered : IfSome played.answers (AreAnswers number (map seen_entry upto))

  -- A client's pass has met one that had seen `first` and has then seen `last`: it has seen no less, and `first` too, and `last`
  -- has what it had seen.
  pub record IsMet (first last : List Entry) (old new : Played B) : Type 0 where
    pub script : new.script ≡ old.script
    pub answers : new.answers ≡ old.answers
    pub pass : Meeting old.pass new.pass
    pub knows : Knows new.pass
    pub learned : IsPrefix first new.pass.seen
    pub told : IsPrefix old.pass.seen last

  -- A pass and that of a client have met.
  pub record HaveMet (old new : View) (client client' : Played B) : Type 0 where
    pub first : Meeting old new
    pub second : IsMet old.seen new.seen client client'
