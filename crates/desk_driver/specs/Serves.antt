-- What holds of the engine's pass while it serves.
use Rattle.std.specs.Prelude.{◌≡◌, IsTrue, List, ◌++◌, Some}
use Rattle.ask_history.specs.Journal.{is_closed}
use Rattle.ask_history.specs.Legal.{is_legal}
use Rattle.counting_word.specs.declared.view.Entry.{Entry}
use Rattle.counting_word.specs.declared.view.View.{View}
use Rattle.counting_word.specs.History.{journal_of, entries_by, engine_number}
use Rattle.ask_desk.specs.Answers.{is_rightful}
use Rattle.ask_desk.specs.Passes.{Moves}

-- The engine's pass, which began with the knowledge `begun`, has seen more since: these entries, of which its own are those in
-- its name. Of them each check is the engine's, and so is each settling before the shutdown. The pass keeps its number, the
-- count of passes that it made, and the tickets whose answers it got.
pub record Serves (begun now : View) : Type 0 where
  pub moves : Moves begun now
  pub entries : List Entry
  pub behind : now.seen ≡ begun.seen ++ entries
  pub own : now.name.own ≡ begun.name.own ++ entries_by engine_number entries
  pub rightful : IsTrue (is_rightful (is_closed (journal_of begun.seen)) entries)
  pub got : now.name.got ≡ begun.name.got
  pub engine : now.name.number ≡ Some engine_number
  pub legal : IsTrue (is_legal (journal_of now.seen))
