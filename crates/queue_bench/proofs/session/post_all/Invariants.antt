use Rattle.std.proofs.Common.{◌≡◌, ℕ, false, IsTrue}
use Rattle.ask_history.specs.Journal.{is_settled}
use Rattle.ask_history.specs.Legal.{is_legal}
use Rattle.queue_bench.proofs.session.post_all.Given as goal

abbrev pub invariant-loop-round : goal.invariant-loop-round
invariant-loop-round l = record {
  unsettled : (ticket : ℕ) → is_settled l.queue.journal ticket ≡ false;
  legal : IsTrue (is_legal l.queue.journal);
}
