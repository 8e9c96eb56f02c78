use Rattle.compiler_loop.proofs.loaded.LoadedFiles.restart_checks.Goals as goal

pub returns-clause-room : goal.returns-clause-room
returns-clause-room c = λ more room. record { files = room.files; checks = c.restart.ensures.room more room.checks }
