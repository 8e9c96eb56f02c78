use Rattle.std.proofs.Common.{◌≡◌, ◌-◌, []}
use Rattle.item_answers.specs.Asking.{answer}
use Rattle.class_parents.specs.Parents.{classes_of, max_steps, reached}
use Rattle.class_parents.proofs.parents.reached.Given as goal

-- what the steps that are left come to is what all come to
abbrev pub invariant-loop-step : goal.invariant-loop-step
invariant-loop-step g l =
    answer (g.I.Infos.known l.infos) (reached (max_steps - l._step) l.todo l.seen.keys) ≡ answer (g.I.Infos.known l.infos) (reached max_steps (classes_of l.types) [])
