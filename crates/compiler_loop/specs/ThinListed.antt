-- The problems of a file are in their order.
use Rattle.std.specs.Prelude.{Bool, true, false, if◌then◌else◌, [], ◌∷◌}
use Rattle.std.specs.List.Sorted.{IsStrictlySortedBy}
use Rattle.pc_terms.specs.Problems.{AreListed}
use Rattle.ask_history.specs.Sources.{Bytes, Sources}
use Rattle.compiler_loop.specs.ThinAnswer.{are_thin, units_of}
use Rattle.compiler_loop.specs.ThinProblems.{thin_problems, unread_problem}

one_listed : (b : Bool) → AreListed (if b then [] else unread_problem ∷ [])
unfolding IsStrictlySortedBy
one_listed true = tt
one_listed false = (tt, tt)

pub thin_listed : (sources : Sources) (file : Bytes) → AreListed (thin_problems sources file)
thin_listed sources file = one_listed (are_thin [] (units_of sources))
