use Rattle.std.proofs.Common.{◌≡◌, ◌≤◌, ◌++◌, length, vec_capacity}
use Rattle.session_threads.proofs.Ready.{AreMaking}
use Rattle.session_threads.proofs.passes.clients_of.Given as goal

abbrev pub invariant-loop-script : goal.invariant-loop-script
invariant-loop-script g l = record {
  making : AreMaking l.engine.pass l.engine.made l.yielded l.clients.items;
  left : l.yielded ++ l.script-iterator.rest.items ≡ l.fn.scripts;
  room : length l.fn.scripts ≤ vec_capacity l.clients;
}
