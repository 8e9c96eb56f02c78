use Rattle.std.proofs.Common.{◌≡◌, drop}
use Rattle.compiler_loop.specs.Thin.{type_of}
use Rattle.compiler_loop.proofs.thin.reading.type_of.Given as goal

-- the vals that are left give the name the same type
abbrev pub invariant-loop-val : goal.invariant-loop-val
invariant-loop-val l = type_of (drop l.val-index l.vals) l.name ≡ type_of l.vals l.name
