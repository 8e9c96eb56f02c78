-- A walk along a journal.
use Rattle.std.specs.Prelude.{List, [], ◌∷◌, ◌++◌}
use Rattle.ask_history.specs.declared.events.Event.{Event}

-- from a state, along the events that are left, where these stand before them
abbrev pub walk : {S : Type 0} → (List Event → S → Event → S) → S → List Event → List Event → S
walk step state before [] = state
walk step state before (event ∷ rest) = walk step (step before state event) (before ++ event ∷ []) rest

-- The state in which a walk along the whole journal ends. Each step sees the events before its own.
abbrev pub along : {S : Type 0} → (List Event → S → Event → S) → S → List Event → S
along step start journal = walk step start [] journal
