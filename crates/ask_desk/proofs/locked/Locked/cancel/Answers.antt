use Rattle.std.proofs.Common.{◌∙◌, ap, is_some}
use Rattle.counting_word.specs.declared.view.View.{View}
use Rattle.counting_word.specs.History.{taker_of}
use Rattle.ask_desk.proofs.Passing.{accepted_led}
use Rattle.ask_desk.proofs.locked.Locked.cancel.Goals as goal

pub cancel-seen-requires-clause-accepted : goal.cancel-seen-requires-clause-accepted
cancel-seen-requires-clause-accepted g c =
    accepted_led c.pass.inside.seat c.self.inside.scribe c.take_lead.new.seat c.args.ticket.now.ticket c.take_lead.ensures
    (ap (λ (v : View). is_some (taker_of v.seen c.args.ticket.now.ticket)) c.pass.view_is ∙ c.requires)
