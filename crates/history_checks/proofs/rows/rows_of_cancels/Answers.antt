use Rattle.std.proofs.Common.{refl}
use Rattle.std.specs.Fmt.{digits}
use Rattle.history_checks.proofs.rows.rows_of_cancels.Goals as goal

pub returns-clause-inside : goal.returns-clause-inside
unfolding digits
returns-clause-inside c = refl

pub returns-clause-after : goal.returns-clause-after
unfolding digits
returns-clause-after c = refl

pub returns-clause-ahead : goal.returns-clause-ahead
unfolding digits
returns-clause-ahead c = refl

pub returns-clause-outer : goal.returns-clause-outer
unfolding digits
returns-clause-outer c = refl
