-- What the parts of reading an order do.
use Rattle.std.specs.Prelude.{◌≡◌, Bool, true, false, List, [], ◌∷◌, ◌++◌}
use Rattle.script_text.specs.Words.{Bytes}
use Rattle.script_text.specs.Standing.{is_next_pair}

-- the name and its pair are taken just where they are the next pair
abbrev pub TakesPair : List Bytes → List (Bytes × Bytes) → Bytes → Bytes → List Bytes → List (Bytes × Bytes) → Bool → Type 0
TakesPair names pairs name path names' pairs' true =
    (is_next_pair names name path ≡ true) × (names' ≡ names ++ name ∷ []) × (pairs' ≡ pairs ++ (name, path) ∷ [])
TakesPair names pairs name path names' pairs' false = is_next_pair names name path ≡ false
