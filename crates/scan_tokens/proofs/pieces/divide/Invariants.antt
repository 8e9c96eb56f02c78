use Rattle.std.proofs.Common.{◌≡◌, ◌++◌, ◌≤◌, length}
use denote.Text.{Utf8}
use denote.Shadow.{shadow}
use Rattle.std.specs.Str.{chars}
use Rattle.scan_tokens.specs.Pieces.{tokens_in, problems_in}
use Rattle.scan_tokens.proofs.pieces.divide.Given as goal

abbrev pub invariant-loop-rest : goal.invariant-loop-rest
invariant-loop-rest l =
    shadow (Utf8 l.rest)
    × (l.tokens ++ tokens_in (length l.text) (chars l.rest) ≡ tokens_in (length l.text) (chars l.text))
    × (l.problems ++ problems_in (length l.text) (chars l.rest) ≡ problems_in (length l.text) (chars l.text))
    × (length l.rest ≤ length l.text)

abbrev pub decreases-loop-rest : goal.decreases-loop-rest
decreases-loop-rest l = length l.rest
