use Rattle.std.proofs.Common.{◌≡◌, ◌++◌, ◌≤◌, length, map, false}
use denote.Text.{Utf8}
use denote.Shadow.{shadow}
use Rattle.std.specs.Str.{chars}
use Rattle.scan_tokens.specs.declared.problems.Fault.TheVariants.{NumberOrEscape}
use Rattle.scan_tokens.specs.Literals.{bad_escapes}
use Rattle.scan_tokens.specs.Pieces.{problem_of}
use Rattle.scan_tokens.proofs.problems.add_bad_escapes.Given as goal

abbrev pub invariant-loop-c : goal.invariant-loop-c
invariant-loop-c l =
    shadow (Utf8 l.rest)
    × (l.problems ++ map (problem_of NumberOrEscape) (bad_escapes l.total l.quote l.escaped (chars l.rest))
    ≡ l.initial.problems ++ map (problem_of NumberOrEscape) (bad_escapes l.total l.quote false (chars l.text)))
    × (length l.rest ≤ length l.text)

abbrev pub decreases-loop-c : goal.decreases-loop-c
decreases-loop-c l = length l.rest
