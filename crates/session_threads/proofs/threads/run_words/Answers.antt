use Rattle.std.proofs.Common.{map, string_bytes, refl}
use Rattle.session_threads.proofs.Running.{run_of, run_refused}
use Rattle.session_threads.proofs.threads.run_words.Goals as goal

pub returns-in-Err-clause-run : goal.returns-in-Err-clause-run
returns-in-Err-clause-run g c =
    rw (c.unbegun.ensures.ending, c.unbegun.ensures.journal, c.unbegun.ensures.reporter)
    (run_refused g.N.Engine.answer_of g.N.Engine.problems_of (g.F.Files.content c.args.files.now) (map string_bytes c.args.words.now) _ c.in-Err.ending
    c.in-Err.ensures.input c.in-Err.ensures.reading refl refl refl)

pub returns-clause-run : goal.returns-clause-run
returns-clause-run g c =
    rw (c.write_session.ensures.journal, c.write_session.ensures.reporter)
    (run_of g.N.Engine.answer_of g.N.Engine.problems_of (g.F.Files.content c.args.files.now) (map string_bytes c.args.words.now) _ c.in-Ok.scripts
    c.play_session-session.result.journal.events c.play_session-session.result.found c.in-Ok.ensures.input.0 c.in-Ok.ensures.input.1 c.in-Ok.ensures.reading c.play_session-session.ensures.told.1
    c.play_session-session.result.fate c.write_session.result.ending c.play_session-session.ensures.session c.write_session.ensures.ends c.write_session.ensures.wrote c.write_session.ensures.counts
    c.play_session-session.ensures.counts)
