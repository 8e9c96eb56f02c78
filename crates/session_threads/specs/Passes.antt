-- What is known of the passes of a session before it, and of two that meet.
use Rattle.std.specs.Prelude.{◌≡◌, ℕ, [], Some}
use mathlib.Core.List.{IsPrefix}
use Rattle.counting_word.specs.declared.view.View.{View}
use Rattle.counting_word.specs.History.{engine_number}
use Rattle.counting_word.specs.Calls.{Knows}

-- A pass as it was made, with this number: it has seen nothing, and made nothing.
pub record IsNew (view : View) (number : ℕ) : Type 0 where
  pub named : view.name.number ≡ Some number
  pub unseen : view.seen ≡ []
  pub unmade : view.name.own ≡ []

-- The engine's pass, once so many passes were made: it has seen nothing, and made nothing. It counts the passes.
pub record IsEngines (view : View) (count made : ℕ) : Type 0 where
  pub new : IsNew view engine_number
  pub counted : view.name.made ≡ made
  pub count_is : count ≡ made

-- A pass met others: it has seen no less, and keeps its name and what it knows of it.
pub record Meeting (old new : View) : Type 0 where
  pub begins : IsPrefix old.seen new.seen
  pub name : new.name ≡ old.name
  pub knows : Knows old → Knows new
