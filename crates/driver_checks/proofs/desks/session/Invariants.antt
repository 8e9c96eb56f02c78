use Rattle.driver_checks.proofs.desks.session.Given as goal

abbrev pub ghosts-session_over : goal.ghosts-session_over
ghosts-session_over g a = record { table = a.opened.words.shared.table_id; limits = a.limits }
