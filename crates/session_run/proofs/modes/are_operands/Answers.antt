use Rattle.std.proofs.Common.{◌≡◌, ◌<◌, false, get_or, length, map, string_bytes, List, [], ◌∷◌, refl, sym, ap, ◌∙◌, arith}
use Rattle.std.specs.List.{list_all}
use Rattle.std.proofs.lemmas.List.Folds.{list_all-map, list_all_at}
use Rattle.session_run.specs.Words.{Bytes, is_operand, are_operands}
use Rattle.session_run.proofs.modes.are_operands.Goals as goal

-- a word that is no operand
one_no_operand : (words : List Bytes) → list_all is_operand words ≡ false → false ≡ are_operands words
one_no_operand [] h = refl
one_no_operand (word ∷ words) h = sym h

pub returns-then-not-is_operand : goal.returns-then-not-is_operand
returns-then-not-is_operand c =
    let words = c.args.words.now in
    let i = c.loop-word.word-index in
    let word = c.word-item.result in
    let inside : i < length words = omega (arith, c.loop-word-test.true) in
    let refused : is_operand (string_bytes (get_or words i word)) ≡ false =
    ap (λ w. is_operand (string_bytes w)) (sym c.word-item.is) ∙ ap is_operand (sym c.as_bytes.ensures.value) ∙ sym c.is_operand.ensures ∙ c.if-not-is_operand.true in
    one_no_operand (map string_bytes words)
    (list_all-map is_operand string_bytes words ∙ list_all_at (λ w. is_operand (string_bytes w)) words i word inside refused)
