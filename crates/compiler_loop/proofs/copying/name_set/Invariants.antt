use Rattle.std.proofs.Common.{◌≡◌, ℕ, List, take}
use Rattle.std.specs.List.{list_any}
use Rattle.std.specs.Str.{bytes_eq}
use Rattle.compiler_loop.proofs.copying.name_set.Given as goal

-- the set has the names so far
abbrev pub invariant-loop-name : goal.invariant-loop-name
invariant-loop-name l = (name : List ℕ) → list_any (bytes_eq name) l.set.keys ≡ list_any (bytes_eq name) (take l.name-index l.names)
