use Rattle.counting_word.specs.Calls.{entry_of}
use Rattle.counting_word.specs.declared.view.Found.TheVariants.{Problems}
use Rattle.counting_word.proofs.seat.Counter.append_check.Given as goal

abbrev pub ghosts-write : goal.ghosts-write
ghosts-write g a = record { entry = entry_of a.seat.now.name a.event.now (Problems a._found.now) }
