use Rattle.std.proofs.Common.{refl}
use Rattle.std.specs.Fmt.{digits}
use Rattle.history_checks.proofs.rows.rows_of_inner_lines.Goals as goal

pub returns-clause-mutations : goal.returns-clause-mutations
unfolding digits
returns-clause-mutations c = refl

pub returns-clause-memory : goal.returns-clause-memory
unfolding digits
returns-clause-memory c = refl
