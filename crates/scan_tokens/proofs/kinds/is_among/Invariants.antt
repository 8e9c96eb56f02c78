use Rattle.std.proofs.Common.{◌≡◌, length, map}
use Rattle.scan_tokens.specs.Kinds.{is_among}
use Rattle.scan_tokens.proofs.kinds.is_among.Given as goal

abbrev pub invariant-loop-words : goal.invariant-loop-words
invariant-loop-words l = is_among (map (λ w. w.now) l.words) l.word ≡ is_among (map (λ w. w.now) l.initial.words) l.word

abbrev pub decreases-loop-words : goal.decreases-loop-words
decreases-loop-words l = length l.words
