use Rattle.client_scripts.proofs.Whole.{of_scripts}
use Rattle.client_scripts.proofs.laws.law_clients_play_their_scripts.Goals as goal

pub returns : goal.returns
returns c = of_scripts
