use Rattle.std.proofs.Common.{◌≡◌, length, map}
use Rattle.expr_tails.specs.Symbols.{first_written, written}
use Rattle.expr_tails.proofs.symbols.first_written.Given as goal

abbrev pub invariant-loop-words : goal.invariant-loop-words
invariant-loop-words l =
    first_written (map (λ w. written w.0.now w.1) l.words) l.text
    ≡ first_written (map (λ w. written w.0.now w.1) l.initial.words) l.text

abbrev pub decreases-loop-words : goal.decreases-loop-words
decreases-loop-words l = length l.words
