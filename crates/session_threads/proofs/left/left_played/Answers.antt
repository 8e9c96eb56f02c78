use Rattle.session_threads.proofs.Leaving.{left_is_played, told_of, rose_if_played}
use Rattle.session_threads.proofs.left.left_played.Goals as goal

pub returns-clause-left : goal.returns-clause-left
returns-clause-left g c = λ scripts served all. record {
  session =
      left_is_played g.N.Engine.answer_of g.N.Engine.problems_of scripts c.args.ended _ _ _ _ _ _ c.meet_clients-fate.new.pass _ served all c.meet_engine.ensures c.meet.ensures _ c.meet_clients-fate.ensures _ c.end-journal.ensures.begins
      c.end-journal.ensures.legal;
  told =
      told_of g.N.Engine.answer_of g.N.Engine.problems_of _ _ _ _ _ _ served all.ended_is.shut c.meet_engine.ensures _ c.end-journal.ensures.begins c.end-journal.ensures.legal;
}

pub returns-clause-counts : goal.returns-clause-counts
returns-clause-counts g c = rose_if_played _ _ _ _ c.meet_clients-fate.ensures
