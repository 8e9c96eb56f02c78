-- What is seen of a session that is played.
use Rattle.std.specs.Prelude.{ℕ, Bool, false, List, [], ◌∷◌, Option, None}
use Rattle.pc_terms.specs.declared.problems.Problem.{Problem}
use Rattle.ask_history.specs.declared.answers.Answer.{Answer}
use Rattle.ask_history.specs.declared.events.Event.{Event}
use Rattle.schedule_player.specs.declared.outers.Outer.{Outer}
use Rattle.schedule_player.specs.declared.session.Pending.{Pending}

pub record SessionState : Type 0 where
  pub journal : List Event
  -- the ticket of each call line, by its number from 1, where it was accepted
  pub tickets : List (Option ℕ)
  -- the answer of each ticket; one that is open has the answer that a shutdown would give it
  pub answers : List Answer
  -- the problems of each check, in order
  pub problems : List (List Problem)
  -- the lines around the next one, the innermost first
  pub outers : List Outer
  -- what the engine has told of a check that is not noted
  pub found : Option Pending
  pub closed : Bool

-- Nothing was played. No line has the number 0.
abbrev pub fresh_session : SessionState
fresh_session = record { journal = []; tickets = None ∷ []; answers = []; problems = []; outers = []; found = None; closed = false }
