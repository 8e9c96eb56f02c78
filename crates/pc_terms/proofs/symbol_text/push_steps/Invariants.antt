use Rattle.std.proofs.Common.{◌≡◌, ◌++◌, [], drop}
use denote.Text.{Utf8}
use denote.Shadow.{shadow}
use Rattle.pc_terms.specs.Show.{steps_text}
use Rattle.pc_terms.proofs.symbol_text.push_steps.Given as goal

-- what is written so far, and the steps that are left
abbrev pub invariant-loop-step : goal.invariant-loop-step
invariant-loop-step l =
    shadow (Utf8 l.before) × (l.text ++ steps_text l.before (drop l.step-index l.steps) ≡ l.initial.text ++ steps_text [] l.steps)
