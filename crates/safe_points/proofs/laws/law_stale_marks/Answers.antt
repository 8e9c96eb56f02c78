use Rattle.safe_points.proofs.Marks.{has_stale-after}
use Rattle.safe_points.proofs.laws.law_stale_marks.Goals as goal

pub returns : goal.returns
returns g c = has_stale-after
