-- How a list of items is divided into statements.
use Rattle.std.specs.Prelude.{◌≡◌, ℕ, Bool, true, false, List, [], ◌∷◌, map, take, drop}
use Rattle.reading_machines.specs.Parts.{IsLongest, HasNone}
use Rattle.parse_exprs.specs.Items.{is_semicolon}
use Rattle.parse_exprs.specs.Lists.{Elements, Piece, ends_statement, broken_length, items_span}

-- the items of one statement of a list, and whether they are none
pub record Part (J : Type 0) : Type 0 where
  pub items : List J
  pub broken : Bool

-- `Is` says which items are a statement, and `picture` what a reader has of an item.
module _ {I J : Type 0} (e : Elements I) (picture : J → I) (Is : List J → Type 0) where
  abbrev pub at_semicolon : J → Bool
  at_semicolon j = is_semicolon (e.symbol (picture j))

  -- a separator, or the end of the list
  abbrev pub may_follow : List J → Bool
  may_follow js = ends_statement e (map picture js)

  -- as many items as stand before the next separator outside brackets
  abbrev pub up_to_separator : List J → ℕ
  up_to_separator js = broken_length e (map picture js)

  -- A list is none, or begins with a `;`, or with a statement, which is its longest beginning that is one and has a separator or the end of
  -- the list after it, or, where no beginning is, with the items up to the next separator outside brackets.
  pub data Divided : List J → Type 0 where
    NoMore : Divided []
    Semicolon : (j : J) (js : List J) → at_semicolon j ≡ true → Divided js → Divided (j ∷ js)
    Statement : (j : J) (js : List J) (count : ℕ) → at_semicolon j ≡ false → IsLongest Is may_follow (j ∷ js) count
        → Divided (drop count (j ∷ js)) → Divided (j ∷ js)
    Broken : (j : J) (js : List J) → at_semicolon j ≡ false → HasNone Is may_follow (j ∷ js)
        → Divided (drop (up_to_separator (j ∷ js)) (j ∷ js)) → Divided (j ∷ js)

  -- the statements, without empty ones
  abbrev pub parts : {js : List J} → Divided js → List (Part J)
  parts NoMore = []
  parts (Semicolon j js s d) = parts d
  parts (Statement j js count s longest d) = record { items = take count (j ∷ js); broken = false } ∷ parts d
  parts (Broken j js s none d) = record { items = take (up_to_separator (j ∷ js)) (j ∷ js); broken = true } ∷ parts d

  -- what a reader has of one
  abbrev pub piece_shown : Part J → Piece I
  piece_shown p = record { items = map picture p.items; broken = p.broken; span = items_span e (map picture p.items) }
