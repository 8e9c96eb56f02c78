-- The words of the command line.
use Rattle.std.specs.Prelude.{Bool, false, not, ◌&&◌, ◌||◌, ◌==◌, if◌then◌else◌, List, [], ◌∷◌, codes}
use Rattle.std.specs.List.{list_all}
use Rattle.std.specs.Str.{bytes_eq}
use Rattle.pc_terms.specs.Bytes.{minus, less_sign}
pub use Rattle.pc_terms.specs.Bytes.{Bytes}
use Rattle.session_run.specs.declared.modes.Mode.{Mode}
use Rattle.session_run.specs.declared.modes.Mode.TheVariants.{Alone, Threads, Bad}

-- a word that names a file: it is not empty, and begins with neither `-` nor `<`
abbrev pub is_operand : Bytes → Bool
is_operand [] = false
is_operand (b ∷ bs) = not (b == minus || b == less_sign)

-- one word that names a file, or more
abbrev pub are_operands : List Bytes → Bool
are_operands [] = false
are_operands words = list_all is_operand words

-- `step SCHEDULE`
abbrev pub is_step : List Bytes → Bool
is_step (mode ∷ schedule ∷ []) = bytes_eq mode (codes "step") && is_operand schedule
is_step _ = false

-- `replay CLIENT...`
abbrev pub is_replay : List Bytes → Bool
is_replay (mode ∷ clients) = bytes_eq mode (codes "replay") && are_operands clients
is_replay [] = false

abbrev pub mode_of : List Bytes → Mode
mode_of words = if is_step words then Alone else (if is_replay words then Threads else Bad)

-- the schedule that the words name
abbrev pub schedule_of : List Bytes → Bytes
schedule_of [] = []
schedule_of (mode ∷ []) = []
schedule_of (mode ∷ schedule ∷ words) = schedule

-- the clients' scripts that they name
abbrev pub clients_of : List Bytes → List Bytes
clients_of [] = []
clients_of (mode ∷ clients) = clients
