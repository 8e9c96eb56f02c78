use Rattle.std.proofs.Common.{◌≡◌, true, take}
use Rattle.std.specs.List.{list_all}
use Rattle.ask_history.specs.Engine.{is_file_name}
use Rattle.loop_checks.proofs.player.has_names.Given as goal

abbrev pub invariant-loop-name : goal.invariant-loop-name
invariant-loop-name l = list_all is_file_name (take l.name-index l.names) ≡ true
