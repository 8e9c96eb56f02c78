use Rattle.std.proofs.Common.{◌≡◌}
use Rattle.std.specs.List.{filter_map}
use Rattle.client_scripts.specs.Holding.{had_answer}
use Rattle.client_scripts.proofs.client.Client.answers.Given as goal

abbrev pub invariant-loop-one : goal.invariant-loop-one
invariant-loop-one g l = l.answers ≡ filter_map had_answer l.yielded
