use Rattle.client_scripts.proofs.Held.{at_place, can_receive, receive_holding, receive_received}
use Rattle.client_scripts.proofs.client.Client.receive.Goals as goal

pub answer_to-answer-requires : goal.answer_to-answer-requires
answer_to-answer-requires g c = can_receive g.P.ClientPass.number_of _ _ _ c.replace-held.result c.requires.holding c.requires.there (at_place c.args.self.now.held.items c.args.index c.replace-held.result c.replace-held.ensures.value c.index_mut.ensures.value)

pub returns-clause-holding : goal.returns-clause-holding
returns-clause-holding g c =
    receive_holding g.P.ClientPass.number_of _ _ _ _ c.replace-held.result _ _ c.requires.holding c.requires.there
    (at_place c.args.self.now.held.items c.args.index c.replace-held.result c.replace-held.ensures.value c.index_mut.ensures.value) c.answer_to-answer.ensures

pub returns-clause-received : goal.returns-clause-received
returns-clause-received g c =
    receive_received g.P.ClientPass.number_of _ _ _ _ c.replace-held.result _ c.requires.holding c.requires.there
    (at_place c.args.self.now.held.items c.args.index c.replace-held.result c.replace-held.ensures.value c.index_mut.ensures.value) c.answer_to-answer.ensures
