use Rattle.std.proofs.Common.{◌≡◌, true, take}
use Rattle.std.specs.List.{list_all}
use Rattle.ask_history.specs.Engine.{is_file_name}
use Rattle.loop_checks.proofs.player.has_pair_names.Given as goal

abbrev pub invariant-loop-pair : goal.invariant-loop-pair
invariant-loop-pair l = list_all (λ pair. is_file_name pair.0) (take l.pair-index l.pairs) ≡ true
