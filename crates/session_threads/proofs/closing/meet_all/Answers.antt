use Rattle.std.proofs.Common.{arith}
use Rattle.session_threads.proofs.Joining.{met_itself, met_then, none_met, one_more_met, all_met}
use Rattle.session_threads.proofs.closing.meet_all.Goals as goal

pub loop-client-init : goal.loop-client-init
loop-client-init g c = record { pass = met_itself _; clients = none_met _ _ _ }

pub loop-client-preserved : goal.loop-client-preserved
loop-client-preserved g c = record {
  pass = met_then _ _ _ c.loop-client.invariant.pass c.meet_one.ensures.first;
  clients = one_more_met _ c.loop-client.pass c.meet_one.new.pass _ _ _ c.client-item.result c.meet_one.new.client c.loop-client.invariant.pass.begins
      (omega (arith, c.loop-client-test.true, c.loop-client.auto.client-items)) c.loop-client.invariant.clients c.meet_one.ensures;
}

pub returns-clause-pass : goal.returns-clause-pass
returns-clause-pass g c = c.loop-client.invariant.pass

pub returns-clause-clients : goal.returns-clause-clients
returns-clause-clients g c =
    all_met _ _ c.loop-client.client-index c.args.clients.now.len c.args.clients.now.items c.loop-client.client-items c.args.clients.now.ok.0
    (rw c.deref_mut-client-items.ensures.value at c.loop-client.auto.client-items)
    (rw c.deref_mut-client-items.ensures.value at c.loop-client-test.false)
    (rw c.deref_mut-client-items.ensures.value at c.loop-client.invariant.clients)
