use Rattle.std.proofs.Common.{List, rules, sym, ap, ◌∙◌}
use Rattle.compiler_loop.specs.CoreParts.{asks_of, staged_of}
use Rattle.compiler_loop.specs.declared.checks.Outcome.{Outcome}
use Rattle.compiler_loop.specs.Loaded.{files_with, is_checked, is_skipped}
use Rattle.compiler_loop.specs.LoadedView.{names_of}
use Rattle.compiler_loop.proofs.StateLemmas.{settled_ask, settled_applies}
use Rattle.compiler_loop.proofs.TaskLemmas.{asks_of_removed, asks_of_stale}
use Rattle.compiler_loop.proofs.core_loop.CoreEngine.settled.Goals as goal

pub returns-then-not-has_staged : goal.returns-then-not-has_staged
returns-then-not-has_staged c = settled_ask _ _ _ _ (search rules) (ap asks_of c.remove-task.ensures.rest ∙ asks_of_removed c.args.self.now.tasks c.args.ticket)

pub put_in_force-requires : goal.put_in_force-requires
put_in_force-requires c = c.args.self.now.ready c.in-Some.staged (sym c.take.ensures.value ∙ c.in-Some.is)

pub returns-in-Applies : goal.returns-in-Applies
returns-in-Applies c =
    settled_applies _ _ _ _ _ (search rules) (ap staged_of (sym c.take.ensures.value ∙ c.in-Some.is)) c.in-Applies.is c.put_in_force.ensures.files (ap asks_of c.put_in_force.ensures.stale ∙ asks_of_stale c.args.self.now.tasks) (ap staged_of c.take.ensures.after)
    (ap (λ (outcomes : List Outcome). files_with is_checked outcomes (names_of c.put_in_force.new.loaded)) c.put_in_force.ensures.outcomes)
    (ap (λ (outcomes : List Outcome). files_with is_skipped outcomes (names_of c.put_in_force.new.loaded)) c.put_in_force.ensures.outcomes)
