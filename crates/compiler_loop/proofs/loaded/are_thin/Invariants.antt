use Rattle.std.proofs.Common.{◌≡◌}
use Rattle.compiler_loop.specs.Loaded.{is_thin, texts_of}
use Rattle.compiler_loop.specs.ThinAnswer.{are_thin, units_of}
use Rattle.compiler_loop.proofs.loaded.are_thin.Given as goal

-- the files that are left are thin behind the names seen just where all are
abbrev pub invariant-loop-name : goal.invariant-loop-name
invariant-loop-name l = are_thin l.seen.keys (units_of (texts_of l._name-iterator)) ≡ is_thin l.files.entries
