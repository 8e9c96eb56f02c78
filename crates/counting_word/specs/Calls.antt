-- What calls of several steps come to.
use Rattle.std.specs.Prelude.{◌≡◌, ◌⊎◌, ℕ, ◌+◌, ◌≤◌, true, false, IsTrue, List, [], length, Option, Some, unwrap_or}
use mathlib.Core.List.{IsPrefix}
use Rattle.ask_history.specs.Journal.{is_settled}
use Rattle.ask_history.specs.Legal.{is_legal}
use Rattle.ask_history.specs.declared.events.Event.{Event}
use Rattle.counting_word.specs.declared.view.Entry.{Entry}
use Rattle.counting_word.specs.declared.view.Found.{Found}
use Rattle.counting_word.specs.declared.view.Name.{Name}
use Rattle.counting_word.specs.declared.view.View.{View}
use Rattle.counting_word.specs.History.{journal_of, entries_by, taker_of, has, engine_number, are_made}
use Rattle.counting_word.specs.Views.{nameless}

-- the entry of an event in this name
abbrev pub entry_of : Name → Event → Found → Entry
entry_of name event found = record { event = event; author = unwrap_or name.number 0; found = found }

-- What a view knows after a load: the word was no less than what it has seen, which is legal; all entries by its number
-- are its own; and the engine's view knows that every author was made.
pub record Knows (view : View) : Type 0 where
  pub counted : length view.seen ≤ view.known
  pub legal : IsTrue (is_legal (journal_of view.seen))
  pub own : (n : ℕ) → view.name.number ≡ Some n → view.name.own ≡ entries_by n view.seen
  pub authors : view.name.number ≡ Some engine_number → IsTrue (are_made view.name.made view.seen)

-- What the leader knows of the tickets that were given: each is settled, and it got those that it took.
pub record KnowsGiven (number : Option ℕ) (got : List ℕ) (history : List Entry) (given : List ℕ) : Type 0 where
  pub settled : (ticket : ℕ) → IsTrue (has given ticket) → IsTrue (is_settled (journal_of history) ticket)
  pub got_mine : (n : ℕ) → number ≡ Some n → (ticket : ℕ) → IsTrue (has given ticket) → taker_of history ticket ≡ Some n → IsTrue (has got ticket)

-- What a meeting leaves one of two seats with, of which `other` is the other: it has seen what either had seen, the
-- one list or the other, and knows of the word what either knew.
pub record Grows (old other new : View) : Type 0 where
  pub begins : IsPrefix old.seen new.seen
  pub learns : IsPrefix other.seen new.seen
  pub longer : (new.seen ≡ old.seen) ⊎ (new.seen ≡ other.seen)
  pub known : old.known ≤ new.known
  pub learns_known : other.known ≤ new.known
  pub knows : Knows new
  pub loads : new.loads ≡ old.loads + 1
  pub name : new.name ≡ old.name
  pub follows : new.leads ≡ false
  pub compared : new.older ≡ []

-- Two seats meet: both have then seen one beginning of the history, the longer of the two.
pub record Meets (one other one' other' : View) : Type 0 where
  pub same : one'.seen ≡ other'.seen
  pub first : Grows one other one'
  pub second : Grows other one other'

-- A seat that leads, with what the scribe before it had seen and had given.
abbrev pub leading : View → List Entry → List ℕ → View
leading old history given = record {
  leads = true;
  seen = history;
  older = [];
  known = length history;
  loads = old.loads + 1;
  name = record old.name { given = given };
}

-- Taking the lead: the seat has seen the whole history, which what it had seen before begins.
pub record TakesLead (old scribe new : View) : Type 0 where
  pub view : new ≡ leading old scribe.seen scribe.name.given
  pub begins : IsPrefix old.seen scribe.seen
  pub known : old.known ≤ length scribe.seen
  pub knows : Knows new
  pub given : KnowsGiven old.name.number old.name.got scribe.seen scribe.name.given

-- A seat that led, and no longer does.
abbrev pub following : View → View
following old = record {
  leads = false;
  seen = old.seen;
  older = [];
  known = length old.seen;
  loads = old.loads + 1;
  name = record old.name { given = [] };
}

-- The scribe that leads from then on.
abbrev pub leading_scribe : View → View
leading_scribe old = record {
  leads = true;
  seen = old.seen;
  older = [];
  known = length old.seen;
  loads = 0;
  name = record nameless { given = old.name.given };
}

-- Giving the lead back: the word was the length of all that the seat has seen.
pub record GivesLead (old new scribe : View) : Type 0 where
  pub view : new ≡ following old
  pub lead : scribe ≡ leading_scribe old
  pub knows : Knows new
  pub given : KnowsGiven old.name.number old.name.got old.seen old.name.given
