use Rattle.desk_checks.proofs.crowd.crowd.Given as goal

abbrev pub ghosts-crowd_over : goal.ghosts-crowd_over
ghosts-crowd_over g a = record { table = a.opened.words.shared.table_id; limits = a.limits }
