use Rattle.session_threads.specs.Passes.{Meeting}
use Rattle.session_threads.proofs.Joining.{MetBelow}
use Rattle.session_threads.proofs.closing.meet_all.Given as goal

abbrev pub invariant-loop-client : goal.invariant-loop-client
invariant-loop-client g l = record {
  pass : Meeting l.initial.pass l.pass;
  clients : MetBelow l.initial.pass.seen l.pass.seen l.client-index l.initial.client-items l.client-items;
}
