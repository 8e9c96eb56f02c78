use Rattle.std.proofs.Common.{◌≡◌, ◌&&◌, take}
use Rattle.std.specs.List.{filter}
use Rattle.type_members.specs.Members.{is_member}
use Rattle.type_members.specs.Spaces.{is_named}
use Rattle.type_members.proofs.named.own_named.Given as goal

-- those so far that have the name
abbrev pub invariant-loop-path : goal.invariant-loop-path
invariant-loop-path g l = l.paths ≡ filter (λ path. is_member path && is_named l.name l.space path) (take l.path-index l.path-items)
