use Rattle.std.proofs.Common.{◌≡◌, Some}
use Rattle.counting_word.specs.History.{journal_of, engine_number}
use Rattle.desk_checks.proofs.Serving.{IsServing}
use Rattle.desk_checks.proofs.crowd.serve.Given as goal

abbrev pub invariant-loop : goal.invariant-loop
invariant-loop g l = (l.engine.pass.name.number ≡ Some engine_number) × IsServing (journal_of l.engine.pass.seen) l.next
