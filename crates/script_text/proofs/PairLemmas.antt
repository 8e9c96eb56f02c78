-- One more name and its path.
use Rattle.std.proofs.Common.{◌≡◌, Bool, true, List, [], ◌∷◌, ◌++◌, Option, Some, refl, sym, ap, ◌∙◌, subst}
use Rattle.script_text.specs.Words.{Bytes, split}
use Rattle.script_text.specs.Pieces.{pieces_behind}
use Rattle.script_text.specs.Orders.{TakesPair}
use Rattle.script_text.specs.Reading.{pairs_from}

pub pairs_on : (names : List Bytes) (pairs : List (Bytes × Bytes)) (left : Option Bytes) (rest name : Bytes) (found : Option Bytes) (behind path : Bytes) (more names' : List Bytes)
    (pairs' : List (Bytes × Bytes)) (taken : Bool) (all : Option (List (Bytes × Bytes)))
    → pairs_from names pairs (pieces_behind 32 left) ≡ all → left ≡ Some rest → split 32 rest ≡ name ∷ pieces_behind 32 found → found ≡ Some behind → split 32 behind ≡ path ∷ more
    → TakesPair names pairs name path names' pairs' taken → taken ≡ true → pairs_from names' pairs' more ≡ all
pairs_on names pairs left rest name found behind path more names' pairs' taken all before left_is first found_is second takes is_true =
    let took : TakesPair names pairs name path names' pairs' true = subst (λ t. TakesPair names pairs name path names' pairs' t) is_true takes in
    let words : pieces_behind 32 left ≡ name ∷ path ∷ more = ap (pieces_behind 32) left_is ∙ first ∙ ap (λ f. name ∷ pieces_behind 32 f) found_is ∙ ap (λ w. name ∷ w) second in
    let one : pairs_from names pairs (name ∷ path ∷ more) ≡ pairs_from (names ++ name ∷ []) (pairs ++ (name, path) ∷ []) more = rw (took.0) refl in
    rw (took.1, took.2) (sym one ∙ ap (pairs_from names pairs) (sym words) ∙ before)
