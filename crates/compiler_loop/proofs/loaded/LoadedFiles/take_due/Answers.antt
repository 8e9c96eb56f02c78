use Rattle.compiler_loop.proofs.CheckLemmas.{ahead_taken}
use Rattle.compiler_loop.proofs.loaded.LoadedFiles.take_due.Goals as goal

pub invariant_of-self : goal.invariant_of-self
invariant_of-self c = record { known = c.args.self.now.known; ahead = ahead_taken _ _ _ _ _ _ _ c.take.ensures c.args.self.now.ahead }
