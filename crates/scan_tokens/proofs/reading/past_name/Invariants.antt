use Rattle.std.proofs.Common.{◌≡◌, ◌≤◌, length, false}
use denote.Text.{Utf8}
use denote.Shadow.{shadow}
use Rattle.std.specs.Str.{chars}
use Rattle.scan_tokens.specs.Reading.{past_name}
use Rattle.scan_tokens.proofs.reading.past_name.Given as goal

abbrev pub invariant-loop-c : goal.invariant-loop-c
invariant-loop-c l =
    shadow (Utf8 l.rest) × (past_name l.underscore (chars l.rest) ≡ past_name false (chars l.text)) × (length l.rest ≤ length l.text)

abbrev pub decreases-loop-c : goal.decreases-loop-c
decreases-loop-c l = length l.rest
