use Rattle.desk_clients.proofs.Seeing.{seen_closes}
use Rattle.desk_clients.proofs.desk_pass.DeskPassClientPass.close.Goals as goal

pub returns : goal.returns
returns g c = seen_closes _ _ _ _ c.known.ensures.1 c.known-2.ensures.1 _ c.close.ensures
