use Rattle.reading_machines.proofs.Longest.{best-runs}
use Rattle.reading_machines.proofs.laws.law_longest_alone.Goals as goal

pub returns : goal.returns
returns g c m follows ts count noted = best-runs m follows ts count noted
