use Rattle.schedule_player.specs.Owed.{CanPlayAll}
use Rattle.player_checks.proofs.lines.with_turns.Given as goal

abbrev pub invariant-loop-line : goal.invariant-loop-line
invariant-loop-line l = CanPlayAll l.made
