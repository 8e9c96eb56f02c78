use Rattle.std.proofs.Common.{◌≡◌, Some, map}
use Rattle.session_threads.specs.Clients.{scripts_played, answers_played}
use Rattle.session_threads.proofs.left.rows_of.Given as goal

abbrev pub invariant-loop-client : goal.invariant-loop-client
invariant-loop-client g l = record {
  scripts : l.scripts ≡ scripts_played l.yielded;
  answers : map Some l.rows ≡ answers_played l.yielded;
}
