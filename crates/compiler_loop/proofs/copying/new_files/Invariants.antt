use Rattle.std.proofs.Common.{◌≡◌, take}
use Rattle.compiler_loop.specs.CoreParts.{pairs_of}
use Rattle.compiler_loop.proofs.copying.new_files.Given as goal

-- the pairs so far are copied
abbrev pub invariant-loop-name : goal.invariant-loop-name
invariant-loop-name l = pairs_of l.files.items ≡ take l.name-index l.pairs
