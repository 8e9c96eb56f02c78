use Rattle.std.proofs.Common.{◌∙◌}
use Rattle.counting_word.specs.declared.view.View.{View}
use Rattle.counting_word.specs.History.{journal_of}
use Rattle.desk_checks.proofs.Serving.{IsServing, serving-looked, serving-open, serving-next, serving-settled}
use Rattle.desk_checks.proofs.crowd.serve.Goals as goal

pub settle-requires-clause-unanswered : goal.settle-requires-clause-unanswered
settle-requires-clause-unanswered g c =
    serving-open c.loop.engine.pass c.await_calls-news.new.engine.pass c.await_calls-news.result c.loop.next c.await_calls-news.ensures.looks c.loop.invariant.1
    c.if-news.false c.await_calls-news.ensures.more

pub settle-requires-clause-next : goal.settle-requires-clause-next
settle-requires-clause-next g c =
    serving-next c.loop.engine.pass c.await_calls-news.new.engine.pass c.await_calls-news.result c.loop.next c.await_calls-news.ensures.looks c.loop.invariant.1 c.if-news.false

pub loop-preserved : goal.loop-preserved
loop-preserved g c =
    let looked : View = c.await_calls-news.new.engine.pass in
    let serving : IsServing (journal_of looked.seen) c.loop.next =
    serving-looked c.loop.engine.pass looked c.await_calls-news.result c.loop.next c.await_calls-news.ensures.looks c.loop.invariant.1 in (
      c.settle.ensures.settles.works.moves.number ∙ (c.await_calls-news.ensures.looks.works.moves.number ∙ c.loop.invariant.0),
      serving-settled looked c.settle.new.engine.pass c.loop.next _ _ c.settle.ensures.settles serving,
    )
