use Rattle.unit_checks.proofs.notation.+push_meaning.Given as goal

abbrev pub decreases-push_meaning : goal.decreases-push_meaning
decreases-push_meaning l = l.room
