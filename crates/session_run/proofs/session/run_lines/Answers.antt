use Rattle.std.proofs.Common.{map, ◌∙◌, ap}
use Rattle.session_run.specs.Shown.{shown_line}
use Rattle.session_run.proofs.SessionLemmas.{session_owed, session_nothing}
use Rattle.session_run.proofs.session.run_lines.Goals as goal

pub returns-in-Err-clause-owed : goal.returns-in-Err-clause-owed
returns-in-Err-clause-owed g c =
    rw (c.unbegun.ensures.ending, c.unbegun.ensures.journal, c.unbegun.ensures.reporter)
    (session_nothing g.N.Engine.answer_of g.N.Engine.problems_of c.args.lines (g.O.Sink.written c.args.out.now) (g.O.Sink.faults c.args.out.now) (g.N.Engine.state c.args.engine.now) _ c.requires.fresh)

pub returns-clause-owed : goal.returns-clause-owed
returns-clause-owed g c =
    session_owed g.N.Engine.answer_of g.N.Engine.problems_of c.args.lines c.in-Ok.shown c.play_reported-played.result.0 _ c.write_session-ending.result.0 c.write_session-ending.result.1
    (c.in-Ok.ensures ∙ ap (map shown_line) c.as_slice.ensures) c.play_reported-played.ensures.owed c.write_session-ending.ensures.journal c.write_session-ending.ensures.ends
    c.write_session-ending.ensures.wrote c.write_session-ending.ensures.counts c.play_reported-played.ensures.told.1
