-- What holds of every pass.
use Rattle.std.specs.Prelude.{◌≡◌, ℕ, false, IsTrue, Some}
use Rattle.ask_history.specs.Journal.{is_settled}
use Rattle.counting_word.specs.declared.view.View.{View}
use Rattle.counting_word.specs.History.{journal_of, has}
use Rattle.counting_word.specs.Calls.{Knows}

-- Between calls a pass does not lead, and it knows what a load told it. The tickets whose answers it got are settled in
-- what it has seen.
pub record IsPass (view : View) (number : ℕ) : Type 0 where
  pub follows : view.leads ≡ false
  pub knows : Knows view
  pub named : view.name.number ≡ Some number
  pub settled : (ticket : ℕ) → IsTrue (has view.name.got ticket) → IsTrue (is_settled (journal_of view.seen) ticket)
