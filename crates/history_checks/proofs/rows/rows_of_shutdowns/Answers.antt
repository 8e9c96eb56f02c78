use Rattle.std.proofs.Common.{refl}
use Rattle.std.specs.Fmt.{digits}
use Rattle.history_checks.proofs.rows.rows_of_shutdowns.Goals as goal

pub returns-clause-inside : goal.returns-clause-inside
unfolding digits
returns-clause-inside c = refl

pub returns-clause-after : goal.returns-clause-after
unfolding digits
returns-clause-after c = refl

pub returns-clause-cancel : goal.returns-clause-cancel
unfolding digits
returns-clause-cancel c = refl
