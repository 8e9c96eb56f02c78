-- What a pass took stays its own.
use Rattle.std.proofs.Common.{◌≡◌, ℕ, ◌++◌, IsTrue, List, Option, is_some, sym, ap, ◌∙◌}
use mathlib.Core.List.{IsPrefix}
use Rattle.counting_word.specs.declared.view.Entry.{Entry}
use Rattle.counting_word.specs.History.{taker_of}
use Rattle.counting_word.proofs.Naming.{taker_of-append}

pub taker_kept : (xs ys : List Entry) (ticket : ℕ) (old new : Option ℕ) → IsPrefix xs ys → IsTrue (is_some old) → taker_of xs ticket ≡ old → new ≡ old → taker_of ys ticket ≡ new
taker_kept xs ys ticket old new begins some mine same =
    ap (λ es. taker_of es ticket) (sym begins.1) ∙ taker_of-append xs begins.0 ticket (ap is_some mine ∙ some) ∙ mine ∙ sym same
