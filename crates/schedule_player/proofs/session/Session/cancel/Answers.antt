use Rattle.schedule_player.proofs.session.Session.cancel.Goals as goal

pub cancel_ticket-requires : goal.cancel_ticket-requires
cancel_ticket-requires c = c.requires _ (cc)
