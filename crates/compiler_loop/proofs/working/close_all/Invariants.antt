use Rattle.std.proofs.Common.{length}
use Rattle.compiler_loop.proofs.working.close_all.Given as goal

abbrev pub decreases-loop-ticket : goal.decreases-loop-ticket
decreases-loop-ticket l = length l.tasks
