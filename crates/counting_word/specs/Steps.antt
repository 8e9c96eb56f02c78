-- What a step on the word tells the seat that makes it.
use Rattle.std.specs.Prelude.{◌≡◌, ℕ, ◌≤◌, true, IsTrue, length, Some}
use Rattle.atomic_table.specs.Table.{Step, Me}
use Rattle.ask_history.specs.Journal.{is_settled}
use Rattle.ask_history.specs.Legal.{is_legal}
use Rattle.counting_word.specs.declared.view.Entry.{Entry}
use Rattle.counting_word.specs.declared.view.View.{View}
use Rattle.counting_word.specs.History.{journal_of, entries_by, AllBegin, taker_of, has, engine_number, are_made}
use Rattle.counting_word.specs.Views.{loaded, appended, handed}

-- What a load that found a number tells of a view: the word is not below what was seen or known of it, and is the
-- length of what the leader has seen. Each older beginning begins what was seen, which is legal. All entries by its
-- number are its own. The engine's view learns that every author was made, and the leader that of the tickets that were
-- given it got those that it took, and that each of them is settled.
pub record Learns (view : View) (found : ℕ) : Type 0 where
  pub seen : length view.seen ≤ found
  pub known : view.known ≤ found
  pub whole : view.leads ≡ true → length view.seen ≡ found
  pub older : AllBegin view.older view.seen
  pub legal : IsTrue (is_legal (journal_of view.seen))
  pub own : (n : ℕ) → view.name.number ≡ Some n → view.name.own ≡ entries_by n view.seen
  pub authors : view.name.number ≡ Some engine_number → IsTrue (are_made view.name.made view.seen)
  pub got : view.leads ≡ true → (n : ℕ) → view.name.number ≡ Some n
      → (ticket : ℕ) → IsTrue (has view.name.given ticket) → taker_of view.seen ticket ≡ Some n → IsTrue (has view.name.got ticket)
  pub settled : view.leads ≡ true → (ticket : ℕ) → IsTrue (has view.name.given ticket) → IsTrue (is_settled (journal_of view.seen) ticket)

-- A load changes what is known of the word alone.
abbrev pub Loads : Step ℕ → Me ℕ View → ℕ → Me ℕ View → Type 0
Loads step old found new = (new.1 ≡ old.1) × (new.0 ≡ loaded old.0 found) × Learns old.0 found

-- An append finds the length of what the leader has seen, and puts its entry after it.
abbrev pub Appends : Entry → Step ℕ → Me ℕ View → ℕ → Me ℕ View → Type 0
Appends entry step old found new = (new.1 ≡ old.1) × (new.0 ≡ appended old.0 entry) × (found ≡ length old.0.seen)

-- A handing load besides puts its ticket among those given, and among those that the pass got.
abbrev pub HandsOut : ℕ → Step ℕ → Me ℕ View → ℕ → Me ℕ View → Type 0
HandsOut ticket step old found new = (new.1 ≡ old.1) × (new.0 ≡ handed old.0 ticket found) × Learns old.0 found
