-- An engine with an open ask is not idle.
use Rattle.std.proofs.Common.{◌≡◌, ℕ, Bool, false, not, ◌||◌, List, [], ◌∷◌, ◌++◌, refl, ap, ◌∙◌}
use Rattle.ask_history.specs.Sources.{some_of}
use Rattle.ask_history.specs.Engine.{EngineState, is_idle, files_due}
use Rattle.ask_history.specs.declared.calls.Call.{Call}

some_behind : (below : List (ℕ × Call)) (ask : ℕ × Call) (due : Bool) → not (some_of (below ++ ask ∷ []) || due) ≡ false
some_behind [] ask due = refl
some_behind (other ∷ below) ask due = refl

pub not_idle : (state : EngineState) (below : List (ℕ × Call)) (ask : ℕ × Call) → state.asks ≡ below ++ ask ∷ [] → is_idle state ≡ false
not_idle state below ask e = ap (λ asks. not (some_of asks || some_of (files_due state))) e ∙ some_behind below ask (some_of (files_due state))
