use Rattle.reading_machines.proofs.Longest.{reads-stuck}
use Rattle.reading_machines.proofs.laws.law_stuck.Goals as goal

pub returns : goal.returns
returns g c m follows ts exact = reads-stuck _ m follows ts exact
