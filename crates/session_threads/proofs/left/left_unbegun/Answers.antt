use Rattle.session_threads.proofs.Leaving.{session_is, told_of, comes_unbegun, rose_if_unbegun}
use Rattle.session_threads.proofs.left.left_unbegun.Goals as goal

pub returns-clause-left : goal.returns-clause-left
returns-clause-left g c = λ scripts served at.
    rw c.fate_at.ensures
    (record {
      session =
          session_is g.N.Engine.answer_of g.N.Engine.problems_of _ _ _ _ _ _ served at.shut c.meet_engine.ensures _ c.end-journal.ensures.begins c.end-journal.ensures.legal scripts _
          (comes_unbegun g.N.Engine.answer_of scripts c.args.spare c.args.index at);
      told = told_of g.N.Engine.answer_of g.N.Engine.problems_of _ _ _ _ _ _ served at.shut c.meet_engine.ensures _ c.end-journal.ensures.begins c.end-journal.ensures.legal;
    })

pub returns-clause-counts : goal.returns-clause-counts
returns-clause-counts g c = λ before now rose. rw c.fate_at.ensures (rose_if_unbegun c.args.index before now rose)
