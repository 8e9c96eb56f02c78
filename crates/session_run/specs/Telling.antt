-- What telling an ending leaves of it.
use Rattle.std.specs.Prelude.{◌≡◌, ◌⊎◌}
use Rattle.session_run.specs.declared.ending.Ending.{Ending}
use Rattle.session_run.specs.declared.ending.Ending.TheVariants as ending

-- the ending itself, or, for a refusal, that there was no memory for its line
abbrev pub IsOrNoMemory : Ending → Ending → Type 0
IsOrNoMemory (ending.Refused why) told = (told ≡ ending.Refused why) ⊎ (told ≡ ending.NoMemory)
IsOrNoMemory ended told = told ≡ ended
