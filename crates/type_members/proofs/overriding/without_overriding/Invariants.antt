use Rattle.std.proofs.Common.{◌≡◌, not}
use Rattle.std.specs.List.{filter}
use Rattle.type_members.specs.Members.{overrides}
use Rattle.type_members.proofs.overriding.without_overriding.Given as goal

-- those so far that do not override it
abbrev pub invariant-loop-earlier : goal.invariant-loop-earlier
invariant-loop-earlier l = l.left ≡ filter (λ earlier. not (overrides earlier l.later)) l.yielded
