use Rattle.std.proofs.Common.{subst}
use Rattle.counting_word.specs.declared.view.View.{View}
use Rattle.ask_desk.specs.Passes.{Accepts}
use Rattle.ask_desk.proofs.Passing.{accepts_call}
use Rattle.ask_desk.proofs.locked.Locked.post.Goals as goal

pub returns-in-Ok-clause-ok : goal.returns-in-Ok-clause-ok
returns-in-Ok-clause-ok g c =
    subst (λ (v : View). Accepts g.B.Room.limits v c.give_lead.new.seat c.in-Ok.ticket c.args.tag c.args.call) c.pass.view_is
    (accepts_call g.B.Room.limits c.pass.inside.seat c.self.inside.scribe c.take_lead.new.seat c.accept.new.seat c.give_lead.new.seat c.give_lead.new.scribe
    c.pass.inside.number c.in-Ok.ticket c.args.tag c.args.call c.pass.invariant c.take_lead.ensures c.in-Ok.ensures.ok c.give_lead.ensures
    c.in-Ok.ensures.next c.in-Ok.ensures.free)
