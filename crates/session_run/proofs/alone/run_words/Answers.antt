use Rattle.std.proofs.Common.{map, string_bytes, refl}
use Rattle.session_run.proofs.RunLemmas.{run_played, run_refused}
use Rattle.session_run.proofs.alone.run_words.Goals as goal

pub returns-in-Ok-clause-run : goal.returns-in-Ok-clause-run
returns-in-Ok-clause-run g c =
    run_played g.N.Engine.answer_of g.N.Engine.problems_of (g.F.Files.content c.args.files.now) (map string_bytes c.args.words.now) _ c.in-Ok.lines c.run_lines.result.ending c.run_lines.result.journal.events
    c.in-Ok.ensures.input.0 c.in-Ok.ensures.input.1 c.in-Ok.ensures.reading c.run_lines.ensures.owed

pub returns-in-Err-clause-run : goal.returns-in-Err-clause-run
returns-in-Err-clause-run g c =
    rw (c.unbegun.ensures.ending, c.unbegun.ensures.journal, c.unbegun.ensures.reporter)
    (run_refused g.N.Engine.answer_of g.N.Engine.problems_of (g.F.Files.content c.args.files.now) (map string_bytes c.args.words.now) _ c.in-Err.ending
    c.in-Err.ensures.input c.in-Err.ensures.reading refl refl refl refl)
