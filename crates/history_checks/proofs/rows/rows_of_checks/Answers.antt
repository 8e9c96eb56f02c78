use Rattle.std.proofs.Common.{refl}
use Rattle.std.specs.Fmt.{digits}
use Rattle.history_checks.proofs.rows.rows_of_checks.Goals as goal

pub returns-clause-twice : goal.returns-clause-twice
unfolding digits
returns-clause-twice c = refl

pub returns-clause-reload : goal.returns-clause-reload
unfolding digits
returns-clause-reload c = refl

pub returns-clause-none : goal.returns-clause-none
unfolding digits
returns-clause-none c = refl

pub returns-clause-remove : goal.returns-clause-remove
unfolding digits
returns-clause-remove c = refl

pub returns-clause-ask : goal.returns-clause-ask
unfolding digits
returns-clause-ask c = refl
