use Rattle.std.proofs.Common.{inr}
use Rattle.ask_desk.proofs.Working.{looks_once, looked_once}
use Rattle.ask_desk.proofs.desk.Desk.await_calls.Goals as goal

pub returns-then-news-clause-looks : goal.returns-then-news-clause-looks
returns-then-news-clause-looks g c =
    looks_once c.args.engine.now.pass c.loop.engine.pass c.look-news.new.pass c.look-news.result c.loop.invariant.0 c.look-news.ensures.looks

pub loop-preserved : goal.loop-preserved
loop-preserved g c = (
  inr (looked_once c.args.engine.now.pass c.loop.engine.pass c.look-news.new.pass c.loop.invariant.0 c.look-news.ensures.looks.works),
  c.loop.invariant.1,
)
