use Rattle.std.proofs.Common.{map, string_bytes}
use Rattle.session_threads.proofs.Running.{still_run}
use Rattle.session_threads.proofs.threads.run_threads.Goals as goal

pub returns-clause-owed : goal.returns-clause-owed
returns-clause-owed g c = record {
  run =
      still_run g.N.Engine.answer_of g.N.Engine.problems_of (g.F.Files.content c.args.files.now) (map string_bytes c.args.words.now) _ c.run_words-ending.result.ending c.tell-ending.result c.run_words-ending.result.journal.events
      c.tell-ending.ensures.same c.run_words-ending.ensures.run;
  status = c.status_of.ensures;
  told = c.tell-ending.ensures.told;
}
