use Rattle.reading_machines.proofs.Longest.{reads-longest}
use Rattle.reading_machines.proofs.laws.law_longest.Goals as goal

pub returns : goal.returns
returns g c m follows ts exact = reads-longest _ m follows ts exact
