use Rattle.std.proofs.Common.{◌≤◌, ◌<◌, ◌∙◌, length, get_or, sym, ap, subst}
use Rattle.work_queue.proofs.Logs.{listed-accepted, is_settled-read, unlisted-is_settled}
use Rattle.work_queue.proofs.log.Log.is_settled.Goals as goal

pub returns-in-Some : goal.returns-in-Some
returns-in-Some c =
    let found = c.in-Some.ensures.lookup in
    let within = subst (λ ps. c.args.ticket < length ps) c.deref.ensures.value found.3.0 in
    c.is_some.ensures
    ∙ is_settled-read c.self.inside c.self.invariant _ c.self.view_is c.args.ticket (listed-accepted c.self.inside c.self.invariant _ c.self.view_is c.args.ticket within)
    c.in-Some.indexes.now (found.1 ∙ ap (λ ps. get_or ps c.args.ticket c.in-Some.indexes.now) c.deref.ensures.value)

pub returns-in-None : goal.returns-in-None
returns-in-None c =
    sym (unlisted-is_settled c.self.inside c.self.invariant _ c.self.view_is c.args.ticket (subst (λ ps. length ps ≤ c.args.ticket) c.deref.ensures.value c.in-None.ensures.lookup.3))
