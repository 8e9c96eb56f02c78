use Rattle.std.proofs.Common.{◌≡◌, ◌-◌, [], ◌∷◌}
use Rattle.item_answers.specs.Asking.{answer}
use Rattle.class_parents.specs.Parents.{max_steps}
use Rattle.base_classes.specs.BaseTypes.{searched}
use Rattle.base_classes.proofs.searching.search.Given as goal

-- what the steps that are left come to is what all come to
abbrev pub invariant-loop-step : goal.invariant-loop-step
invariant-loop-step g l =
    answer (g.I.Infos.known l.infos) (searched (max_steps - l._step) l.class l.todo l.seen.keys)
    ≡ answer (g.I.Infos.known l.infos) (searched max_steps l.class (l.fn.bound ∷ []) [])
