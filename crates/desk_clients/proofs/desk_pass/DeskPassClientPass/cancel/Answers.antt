use Rattle.desk_clients.proofs.Seeing.{seen_cancels, due_taken}
use Rattle.desk_clients.proofs.desk_pass.DeskPassClientPass.cancel.Goals as goal

pub cancel-requires : goal.cancel-requires
cancel-requires g c = due_taken c.args.self.now.pass _ c.requires

pub returns : goal.returns
returns g c = seen_cancels _ _ _ _ c.known.ensures.1 c.known-2.ensures.1 _ c.cancel.ensures.before c.cancel.ensures.writes
