-- The history of a session as the driver of an engine knows it.
use Rattle.std.specs.Prelude.{◌≡◌, Bool, false, IsTrue, List, ◌++◌, map, Option}
use Rattle.std.specs.List.{list_any}
use Rattle.pc_terms.specs.declared.problems.Problem.{Problem}
use Rattle.ask_history.specs.declared.answers.Answer.{Answer}
use Rattle.ask_history.specs.declared.events.Event.{Event}
use Rattle.ask_history.specs.Journal.{is_closed}
use Rattle.ask_history.specs.Legal.{is_legal}
use Rattle.journal_laws.specs.Others.{are_others}

-- An event of the history: the answer of a settling, the problems of a check, and whether the driver made it.
pub record Entry : Type 0 where
  pub event : Event
  pub answer : Option Answer
  pub problems : Option (List Problem)
  pub mine : Bool

-- the journal that a history tells
abbrev pub journal_of : List Entry → List Event
journal_of history = map (λ entry. entry.event) history

-- The history went on by others alone: they made no check, and settled nothing before the shutdown.
pub record IsLater (old now : List Entry) : Type 0 where
  pub others : List Entry
  pub behind : now ≡ old ++ others
  pub theirs : list_any (λ entry. entry.mine) others ≡ false
  pub kinds : IsTrue (are_others (is_closed (journal_of old)) (journal_of others))
  pub legal : IsTrue (is_legal (journal_of now))
