use Rattle.std.proofs.Common.{◌≡◌, ◌-◌, [], ◌∷◌, reverse}
use Rattle.item_answers.specs.Asking.{answer}
use Rattle.class_parents.specs.Parents.{followed, max_steps}
use Rattle.class_parents.specs.Walk.{walked}
use Rattle.class_parents.specs.declared.walking.Visit.TheVariants.{Enter}
use Rattle.class_parents.proofs.walking.walk.Given as goal

-- what the steps that are left come to is what all come to
abbrev pub invariant-loop-step : goal.invariant-loop-step
invariant-loop-step g l =
    walked (λ c. answer (g.I.Infos.known l.infos) (followed c)) (max_steps - l._step) l.todo (reverse l.found.keys)
    ≡ walked (λ c. answer (g.I.Infos.known l.infos) (followed c)) max_steps (Enter l.class ∷ []) []
