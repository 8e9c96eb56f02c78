use Rattle.std.proofs.Common.{◌≡◌, [], length}
use Rattle.ask_history.specs.Sources.{reloaded}
use Rattle.compiler_loop.specs.CoreParts.{pairs_of}
use Rattle.compiler_loop.specs.LoadedView.{files_of, outcomes_of, HasRoom}
use Rattle.compiler_loop.proofs.staging.put_all.Given as goal

-- the files that are left make the same sources, there is room for them, and all files are due
abbrev pub invariant-loop-file : goal.invariant-loop-file
invariant-loop-file l =
    (reloaded (files_of l.loaded) (pairs_of l.files.items) ≡ reloaded (files_of l.initial.loaded) (pairs_of l.initial.files.items))
    × HasRoom l.loaded (length l.files.items)
    × (outcomes_of l.loaded ≡ [])

abbrev pub decreases-loop-file : goal.decreases-loop-file
decreases-loop-file l = length l.files.items
