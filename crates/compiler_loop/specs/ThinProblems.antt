-- The problems of the files of a map, until the language is read.
use Rattle.std.specs.Prelude.{if◌then◌else◌, List, [], ◌∷◌, codes}
use Rattle.pc_terms.specs.declared.problems.Code.TheVariants.{P1}
use Rattle.pc_terms.specs.declared.problems.Problem.{Problem}
use Rattle.ask_history.specs.Sources.{Bytes, Sources}
use Rattle.compiler_loop.specs.ThinAnswer.{are_thin, units_of}

abbrev pub unread_problem : Problem
unread_problem = record { code = P1; span = record { start = 0; end = 0 }; text = codes "not a statement of the profile" }

-- the same for each file: none where the sources are thin, and else that they are not read
abbrev pub map_problems : Sources → List Problem
map_problems sources = if are_thin [] (units_of sources) then [] else unread_problem ∷ []

-- The problems of a file.
abbrev pub thin_problems : Sources → Bytes → List Problem
thin_problems sources file = map_problems sources
