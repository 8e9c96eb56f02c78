use Rattle.std.proofs.Common.{◌∙◌, ◌++◌, ◌∷◌, [], sym, ap, refl, arith}
use Rattle.ask_history.specs.declared.events.Event.TheVariants.{Accept}
use Rattle.work_queue.proofs.Results.{ok_from, ok_chosen}
use Rattle.work_queue.proofs.Logs.{log-accept'}
use Rattle.work_queue.proofs.log.Log.accept.Goals as goal

pub invariant_of-self-2 : goal.invariant_of-self-2
invariant_of-self-2 c =
    let room = ok_from c.reserve.result _ (sym c.is_err.ensures.value ∙ c.if-is_err.false) c.reserve.ensures.ok in
    log-accept' c.self.inside c.self.invariant _ c.self.view_is c.requires _ refl (omega arith) c.len-ticket.result c.args.client c.args.tag c.len-accept.result c.args.call
    c.len-ticket.ensures (c.len-accept.ensures ∙ c.reserve.ensures.len)
    (record { items = c.put.ensures.items ∙ ap (λ xs. xs ++ Accept c.len-ticket.result c.args.client c.args.tag c.args.call ∷ []) c.reserve.ensures.items; len = omega arith; capacity = omega arith })
    (c.push.ensures.items ∙ ok_chosen c.push.result _ _ (sym c.is_err-2.ensures.value ∙ c.if-is_err-2.false)) refl

pub returns-clause-legal : goal.returns-clause-legal
returns-clause-legal c = (invariant_of-self-2 c).noted.legal
