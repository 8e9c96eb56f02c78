use Rattle.driver_checks.proofs.Fresh.{fresh_drives}
use Rattle.driver_checks.proofs.desks.serve.Goals as goal

pub drive-pass-requires-clause-can : goal.drive-pass-requires-clause-can
drive-pass-requires-clause-can g c = fresh_drives c.args.pass.pass.seen _ c.requires.begins c.requires.fresh
