use Rattle.std.proofs.Common.{◌∙◌, ◌++◌, ◌∷◌, [], ap, refl, arith}
use Rattle.ask_history.specs.declared.events.Event.TheVariants.{Checked}
use Rattle.work_queue.proofs.Logs.{log-check}
use Rattle.work_queue.proofs.log.Log.check.Goals as goal

pub invariant_of-self-2 : goal.invariant_of-self-2
invariant_of-self-2 c =
    log-check c.self.inside _ c.self.invariant _ c.self.view_is c.args.file c.requires
    (record { items = c.put.ensures.items ∙ ap (λ xs. xs ++ Checked c.args.file ∷ []) c.reserve.ensures.items; len = omega arith; capacity = omega arith })
    refl refl refl (omega (arith, c.in_ok-reserve.ensures.ok))

pub returns-clause-legal : goal.returns-clause-legal
returns-clause-legal c = (invariant_of-self-2 c).noted.legal
