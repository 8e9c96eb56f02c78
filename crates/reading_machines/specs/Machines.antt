-- A machine that reads tokens one by one, and how far it comes.
use Rattle.std.specs.Prelude.{◌+◌, ℕ, Bool, ◌&&◌, if◌then◌else◌, List, [], ◌∷◌, Option, Some, None}

-- `start` is its state before the first token, `step` the state after one more token where that is admitted, and `whole` says of a state
-- that what was read is a part.
pub record Machine (S T : Type 0) : Type 0 where
  pub start : S
  pub step : S → T → Option S
  pub whole : S → Bool

abbrev pub onward : {A B : Type 0} → Option A → B → (A → B) → B
onward None stuck next = stuck
onward (Some a) stuck next = next a

-- the state after these tokens, where each of them is admitted
abbrev pub run : {S T : Type 0} → (S → T → Option S) → List T → S → Option S
run step [] s = Some s
run step (t ∷ ts) s = onward (step s t) None (run step ts)

-- How far a machine came: its last state, how many tokens it has read, and how many of them are the longest part.
pub record Reading (S : Type 0) : Type 0 where
  pub state : S
  pub reached : ℕ
  pub best : Option ℕ

abbrev pub noted : Bool → ℕ → Option ℕ → Option ℕ
noted passes n best = if passes then Some n else best

-- The machine goes on from a state after n tokens, up to the first that it does not admit. `follows` says what may stand after a part.
abbrev pub reading : {S T : Type 0} → Machine S T → (List T → Bool) → List T → ℕ → Option ℕ → S → Reading S
reading m follows [] n best s = record { state = s; reached = n; best = noted (m.whole s && follows []) n best }
reading m follows (t ∷ ts) n best s =
    let now = noted (m.whole s && follows (t ∷ ts)) n best in
    onward (m.step s t) (record { state = s; reached = n; best = now }) (reading m follows ts (n + 1) now)

-- how far a machine comes from its start
abbrev pub reading_of : {S T : Type 0} → Machine S T → (List T → Bool) → List T → Reading S
reading_of m follows ts = reading m follows ts 0 None m.start
