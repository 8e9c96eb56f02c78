use Rattle.counting_word.specs.Calls.{entry_of}
use Rattle.counting_word.specs.declared.view.Found.TheVariants.{Answered}
use Rattle.counting_word.proofs.seat.Counter.append_answer.Given as goal

abbrev pub ghosts-write : goal.ghosts-write
ghosts-write g a = record { entry = entry_of a.seat.now.name a.event.now (Answered a._found.now) }
