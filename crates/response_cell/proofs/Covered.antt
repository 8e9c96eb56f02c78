-- Cells that are filled up with empty ones.
use Rattle.std.proofs.Common.{◌≡◌, ℕ, ◌+◌, ◌-◌, ◌<◌, List, [], ◌∷◌, ◌++◌, length, take, replicate, refl, ap, ◌∙◌, arith, length-append}
use Rattle.std.specs.List.{AppendsResults, FoldsTo}
use Rattle.std.proofs.lemmas.List.{take_all}
use Rattle.response_cell.specs.declared.cells.Cell.{Cell}
use Rattle.response_cell.specs.declared.cells.Cell.TheVariants.{Empty}
use Rattle.response_cell.specs.Cells.{covered}

module _ {P : Type 0} (R : P → Cell → P → Type 0) (each : (p : P) (x : Cell) (q : P) → R p x q → x ≡ Empty) where
  all_empty : (xs : List Cell) (p q : P) → FoldsTo R p xs q → xs ≡ replicate (length xs) Empty
  all_empty [] p q ran = refl
  all_empty (x ∷ xs) p q ran = rw (each p x ran.0 ran.1) (ap (λ rest. Empty ∷ rest) (all_empty xs ran.0 q ran.2))

  pub covered-filled : (cells new : List Cell) (count ticket : ℕ) (p : P) → count ≡ ticket + 1 → length cells < count → length new ≡ count → AppendsResults R (take count cells) new p → new ≡ covered cells ticket
  covered-filled cells new count ticket p is below len made =
      let whole : new ≡ cells ++ made.0 = made.2 ∙ ap (λ front. front ++ made.0) (take_all count cells (omega arith)) in
      let more : length made.0 ≡ ticket + 1 - length cells = omega (arith, is, below, len, ap length whole, length-append cells made.0) in
      whole ∙ ap (λ rest. cells ++ rest) (all_empty made.0 p made.1 made.3 ∙ ap (λ n. replicate n Empty) more)
