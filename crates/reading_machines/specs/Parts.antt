-- Where a part of a grammar begins a list of tokens. `Is` says of which lists the whole is such a part, and `follows` what may stand
-- after the part.
use Rattle.std.specs.Prelude.{◌≡◌, ◌+◌, ◌<◌, ◌≤◌, ℕ, Bool, true, List, ◌++◌, length, take, drop, Option, Some, None}

-- others can stand after these so that the whole is a part
pub record CanBegin {T : Type 0} (Is : List T → Type 0) (front : List T) : Type 0 where
  pub others : List T
  pub part : Is (front ++ others)

-- the first m tokens are a part with what may follow, and no more of the tokens are
pub record IsLongest {T : Type 0} (Is : List T → Type 0) (follows : List T → Bool) (ts : List T) (m : ℕ) : Type 0 where
  pub within : m ≤ length ts
  pub part : Is (take m ts)
  pub followed : follows (drop m ts) ≡ true
  pub longest : (k : ℕ) → k ≤ length ts → Is (take k ts) → follows (drop k ts) ≡ true → k ≤ m

-- no first tokens are a part with what may follow
abbrev pub HasNone : {T : Type 0} → (List T → Type 0) → (List T → Bool) → List T → Type 0
HasNone Is follows ts = (k : ℕ) → k ≤ length ts → Is (take k ts) → follows (drop k ts) ≡ true → ⊥

-- a part can begin with the first n tokens, and none begins with one more
pub record IsStuckAt {T : Type 0} (Is : List T → Type 0) (ts : List T) (n : ℕ) : Type 0 where
  pub within : n ≤ length ts
  pub begins : CanBegin Is (take n ts)
  pub stuck : n < length ts → CanBegin Is (take (n + 1) ts) → ⊥

-- anything may stand after a part
abbrev pub anything : {T : Type 0} → List T → Bool
anything ts = true

-- how many tokens the longest part has, if there is one
abbrev pub IsBest : {T : Type 0} → (List T → Type 0) → (List T → Bool) → List T → Option ℕ → Type 0
IsBest Is follows ts None = HasNone Is follows ts
IsBest Is follows ts (Some m) = IsLongest Is follows ts m
