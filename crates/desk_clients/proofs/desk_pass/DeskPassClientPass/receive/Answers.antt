use Rattle.desk_clients.proofs.Seeing.{seen_receives, due_mine}
use Rattle.desk_clients.proofs.desk_pass.DeskPassClientPass.receive.Goals as goal

pub receive-answer-requires-clause-mine : goal.receive-answer-requires-clause-mine
receive-answer-requires-clause-mine g c = due_mine _ _ c.known.ensures.1 _ c.requires

pub returns : goal.returns
returns g c = seen_receives _ _ _ _ c.known.ensures.1 c.known-2.ensures.1 _ _ c.receive-answer.ensures
