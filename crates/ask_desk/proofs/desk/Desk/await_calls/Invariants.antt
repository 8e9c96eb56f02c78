use Rattle.std.proofs.Common.{◌≡◌}
use Rattle.ask_desk.proofs.Working.{HasLooked}
use Rattle.ask_desk.proofs.desk.Desk.await_calls.Given as goal

abbrev pub invariant-loop : goal.invariant-loop
invariant-loop g l = HasLooked l.initial.engine.pass l.engine.pass × (l.engine.made ≡ l.initial.engine.made)
