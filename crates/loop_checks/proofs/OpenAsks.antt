-- The tickets of the open asks.
use Rattle.std.proofs.Common.{◌≡◌, ℕ, ◌==◌, Bool, true, false, cond, not, ◌||◌, List, [], ◌∷◌, map, filter, Option, None, refl, ap}
use Rattle.std.specs.List.{list_any}
use Rattle.ask_history.specs.Engine.{EngineState, is_open_in, is_staged, settled_state, mutation_settled, ask_settled}
use Rattle.ask_history.specs.declared.calls.Call.{Call}
use Rattle.ask_history.specs.declared.engine.Effect.{Effect}

pub is_open_in-tickets : (asks : List (ℕ × Call)) (ticket : ℕ) → is_open_in asks ticket ≡ list_any (λ other. other == ticket) (map (λ ask. ask.0) asks)
is_open_in-tickets [] ticket = refl
is_open_in-tickets (ask ∷ asks) ticket = ap (λ b. (ask.0 == ticket) || b) (is_open_in-tickets asks ticket)

pub tickets_left : (asks : List (ℕ × Call)) (ticket : ℕ)
    → map (λ ask. ask.0) (filter (λ ask. not (ask.0 == ticket)) asks) ≡ filter (λ other. not (other == ticket)) (map (λ ask. ask.0) asks)
tickets_left [] ticket = refl
tickets_left (ask ∷ asks) ticket = by (ask.0 == ticket) (tickets_left asks ticket) where
  by : (b : Bool) → map (λ ask. ask.0) (filter (λ ask. not (ask.0 == ticket)) asks) ≡ filter (λ other. not (other == ticket)) (map (λ ask. ask.0) asks)
      → map (λ ask. ask.0) (cond (not b) (ask ∷ filter (λ ask. not (ask.0 == ticket)) asks) (filter (λ ask. not (ask.0 == ticket)) asks))
      ≡ cond (not b) (ask.0 ∷ filter (λ other. not (other == ticket)) (map (λ ask. ask.0) asks)) (filter (λ other. not (other == ticket)) (map (λ ask. ask.0) asks))
  by true rest = rest
  by false rest = ap (λ tickets. ask.0 ∷ tickets) rest

-- where nothing is staged, what is settled is an ask
pub settled_open : (old : EngineState) (ticket : ℕ) (effect : Effect) → old.staged ≡ None → settled_state old ticket effect ≡ ask_settled old ticket
settled_open old ticket effect none =
    ap (λ (staged : Option (ℕ × Call)). cond (is_staged staged ticket) (mutation_settled old effect staged) (ask_settled old ticket)) none
