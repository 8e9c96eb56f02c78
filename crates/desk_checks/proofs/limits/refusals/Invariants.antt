use Rattle.desk_checks.proofs.limits.refusals.Given as goal

abbrev pub ghosts-refusals_over : goal.ghosts-refusals_over
ghosts-refusals_over g a = record { table = a.opened.words.shared.table_id; limits = a.limits }
