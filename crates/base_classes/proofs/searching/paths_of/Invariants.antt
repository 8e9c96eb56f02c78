use Rattle.std.proofs.Common.{◌≡◌, take}
use Rattle.base_classes.specs.BaseTypes.{paths_of}
use Rattle.base_classes.proofs.searching.paths_of.Given as goal

-- the paths so far are copied
abbrev pub invariant-loop-param : goal.invariant-loop-param
invariant-loop-param l = l.paths ≡ paths_of (take l.param-index l.params)
