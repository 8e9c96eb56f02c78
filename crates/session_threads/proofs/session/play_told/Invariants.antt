use Rattle.session_threads.proofs.session.play_told.Given as goal

abbrev pub ghosts-play_at : goal.ghosts-play_at
ghosts-play_at g a = record { table = a.opened.words.shared.table_id; limits = a.limits }
