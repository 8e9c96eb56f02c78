-- The rule of the counting word: what ties the word to the one history, and to what every seat has seen of it.
use Rattle.std.specs.Prelude.{◌≡◌, ℕ, ◌≤◌, true, IsTrue, List, [], ◌∷◌, length, Some, is_some}
use mathlib.Core.Option.{some}
use mathlib.Core.List.{IsPrefix}
use lib.ListN.{get_elem?}
use Rattle.atomic_table.specs.Table.{State}
use Rattle.ask_history.specs.Journal.{is_settled}
use Rattle.ask_history.specs.Legal.{is_legal}
use Rattle.counting_word.specs.declared.view.Entry.{Entry}
use Rattle.counting_word.specs.declared.view.View.{View}
use Rattle.counting_word.specs.History.{journal_of, entries_by, AllBegin, taker_of, has, engine_number, is_made, are_made}

-- What holds of one view. Only the leader leads, and it has seen all of the history. What a view has seen begins the
-- history, and each older beginning that it keeps begins that. The word is at least what the view knows of it.
pub record Fits (leader : ℕ) (history : List Entry) (seat : ℕ) (view : View) : Type 0 where
  pub lead : view.leads ≡ true → seat ≡ leader
  pub whole : view.leads ≡ true → view.seen ≡ history
  pub seen : IsPrefix view.seen history
  pub older : AllBegin view.older view.seen
  pub known : view.known ≤ length history

-- Some view leads, the history is legal, and the word is its length. Each view fits.
pub record Counted (leader : ℕ) (history : List Entry) (words : List ℕ) (views : List View) : Type 0 where
  pub leading : (view : View) × (get_elem? views leader ≡ some view) × (view.leads ≡ true)
  pub legal : IsTrue (is_legal (journal_of history))
  pub word : words ≡ length history ∷ []
  pub each : (seat : ℕ) (view : View) → get_elem? views seat ≡ some view → Fits leader history seat view

-- What holds of the name of one view, where it has a number. All entries by this number are its own, and it has seen
-- them. Of the tickets that were given, it got those that it took. The leader knows which were given, and the engine's
-- view how many passes were made.
pub record FitsName (made : ℕ) (given : List ℕ) (history : List Entry) (view : View) : Type 0 where
  pub number : (n : ℕ) → view.name.number ≡ Some n → IsTrue (is_made made n)
  pub own : (n : ℕ) → view.name.number ≡ Some n → view.name.own ≡ entries_by n history
  pub seen : (n : ℕ) → view.name.number ≡ Some n → entries_by n view.seen ≡ entries_by n history
  pub got : (n : ℕ) → view.name.number ≡ Some n
      → (ticket : ℕ) → IsTrue (has given ticket) → taker_of history ticket ≡ Some n → IsTrue (has view.name.got ticket)
  pub leads : view.leads ≡ true → view.name.given ≡ given
  pub engine : view.name.number ≡ Some engine_number → view.name.made ≡ made

-- no two views have one number
abbrev pub AreApart : List View → Type 0
AreApart views =
    (i j : ℕ) (v w : View) (n : ℕ) → get_elem? views i ≡ some v → get_elem? views j ≡ some w → v.name.number ≡ Some n → w.name.number ≡ Some n → i ≡ j

-- The numbers are those of passes that were made, and so are the authors. A ticket that was given was taken and settled.
pub record Named (made : ℕ) (given : List ℕ) (history : List Entry) (views : List View) : Type 0 where
  pub each : (seat : ℕ) (view : View) → get_elem? views seat ≡ some view → FitsName made given history view
  pub apart : AreApart views
  pub authors : IsTrue (are_made made history)
  pub settled : (ticket : ℕ) → IsTrue (has given ticket) → IsTrue (is_settled (journal_of history) ticket) × IsTrue (is_some (taker_of history ticket))

abbrev pub Holds : State ℕ View → Type 0
Holds state =
    (leader : ℕ) × (history : List Entry) × (made : ℕ) × (given : List ℕ)
    × Counted leader history state.words state.views × Named made given history state.views
