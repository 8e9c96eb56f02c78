use Rattle.std.proofs.Common.{subst}
use Rattle.compiler_loop.specs.CoreParts.{new_files_of}
use Rattle.compiler_loop.specs.LoadedView.{HasRoom}
use Rattle.compiler_loop.specs.declared.tasks.Change.{Change}
use Rattle.compiler_loop.proofs.staging.apply.Goals as goal

pub put_all-requires-clause-room : goal.put_all-requires-clause-room
put_all-requires-clause-room c =
    subst (λ (change : Change). HasRoom c.restart_checks.new.self (new_files_of change)) c.in-Reload.is (c.restart_checks.ensures.room _ c.requires.room)
