-- What the driver of an engine sees of a desk's history.
use Rattle.std.specs.Prelude.{◌==◌, List, map, Option, Some, None, Result, Ok, Err}
use Rattle.pc_terms.specs.declared.errors.NoMemory.{NoMemory as WithoutMemory}
use Rattle.pc_terms.specs.declared.problems.Problem.{Problem}
use Rattle.ask_history.specs.declared.answers.Answer.{Answer}
use Rattle.ask_history.specs.declared.calls.Call.{Call}
use Rattle.work_queue.specs.declared.limits.Settling.{Settling}
use Rattle.work_queue.specs.declared.limits.Settling.TheVariants.{Value, NoMemory}
use Rattle.counting_word.specs.declared.view.Entry.{Entry}
use Rattle.counting_word.specs.declared.view.Found.{Found}
use Rattle.counting_word.specs.declared.view.Found.TheVariants.{Nothing, Answered, Problems}
use Rattle.counting_word.specs.History.{engine_number}
use Rattle.ask_desk.specs.Answers.{found_answer}
use Rattle.ask_desk.specs.declared.driving.CheckNoted.{CheckNoted as DeskNoted}
use Rattle.ask_desk.specs.declared.driving.CheckNoted.TheVariants as desk_noted
use Rattle.engine_driver.specs.History.{Entry as DriversEntry}
use Rattle.engine_driver.specs.declared.board.Posted.{Posted}
use Rattle.engine_driver.specs.declared.board.Posted.TheVariants as posted
use Rattle.engine_driver.specs.declared.board.CheckNoted.{CheckNoted}
use Rattle.engine_driver.specs.declared.board.CheckNoted.TheVariants as noted

abbrev pub found_problems : Found → Option (List Problem)
found_problems (Problems problems) = Some problems
found_problems Nothing = None
found_problems (Answered answer) = None

-- An entry as the driver sees it. It is the driver's where the engine's pass made it.
abbrev pub seen_entry : Entry → DriversEntry
seen_entry entry = record {
  event = entry.event;
  answer = found_answer entry.found;
  problems = found_problems entry.found;
  mine = entry.author == engine_number;
}

abbrev pub seen_history : List Entry → List DriversEntry
seen_history history = map seen_entry history

-- what a queue is told of what the driver found
abbrev pub settling_of : Option Answer → Settling
settling_of (Some answer) = Value answer
settling_of None = NoMemory

-- what the driver is told of what was found of a ticket
abbrev pub posted_of : Result (Option Call) WithoutMemory → Posted
posted_of (Ok (Some call)) = posted.Call call
posted_of (Ok None) = posted.Settled
posted_of (Err refused) = posted.NoMemory

-- and of what became of a check
abbrev pub noted_of : DeskNoted → CheckNoted
noted_of desk_noted.Noted = noted.Noted
noted_of desk_noted.ShutDown = noted.ShutDown
noted_of desk_noted.NoMemory = noted.NoMemory
