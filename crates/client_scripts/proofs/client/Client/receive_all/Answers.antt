use Rattle.client_scripts.proofs.Playing.{rests_both}
use Rattle.std.proofs.Common.{◌∙◌}
use Rattle.client_scripts.proofs.client.Client.receive_all.Goals as goal

pub loop-index-preserved : goal.loop-index-preserved
loop-index-preserved g c = record {
  holding = c.receive.ensures.holding;
  had = c.receive.ensures.had c.loop-index.invariant.had;
  size = c.receive.ensures.length ∙ c.loop-index.invariant.size;
  rests = rests_both (g.P.ClientPass.state c.args.pass.now) (g.P.ClientPass.state c.loop-index.pass) (g.P.ClientPass.state c.receive.new.pass) c.receive.ensures.holding.legal c.loop-index.invariant.rests c.receive.ensures.received.rests;
}
