use Rattle.desk_checks.proofs.passes.play.Given as goal

abbrev pub ghosts-play_over : goal.ghosts-play_over
ghosts-play_over g a = record { table = a.opened.words.shared.table_id; limits = a.limits }
