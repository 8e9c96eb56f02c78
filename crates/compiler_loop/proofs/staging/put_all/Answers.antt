use Rattle.std.proofs.Common.{◌≡◌, ℕ, ◌+◌, ◌∷◌, List, length, sym, ap, subst, ◌∙◌, arith}
use Rattle.ask_history.specs.Sources.{Sources, reloaded}
use Rattle.compiler_loop.specs.CoreParts.{pairs_of}
use Rattle.compiler_loop.specs.LoadedView.{files_of, HasRoom}
use Rattle.compiler_loop.specs.declared.tasks.NewFile.{NewFile}
use Rattle.compiler_loop.proofs.staging.put_all.Goals as goal

pub loop-file-preserved : goal.loop-file-preserved
loop-file-preserved c =
    let items : c.loop-file.files.items ≡ c.in-Some.file ∷ c.pop_front.new.self.items = c.in-Some.ensures.items in
    let len : length c.loop-file.files.items ≡ length c.pop_front.new.self.items + 1 = omega (arith, ap length items) in (
      ap (λ (files : Sources). reloaded files (pairs_of c.pop_front.new.self.items)) c.put.ensures.files
          ∙ ap (λ (files : List NewFile). reloaded (files_of c.loop-file.loaded) (pairs_of files)) (sym items)
          ∙ c.loop-file.invariant.0,
      c.put.ensures.room _ (subst (λ (n : ℕ). HasRoom c.loop-file.loaded n) len c.loop-file.invariant.1),
      c.put.ensures.outcomes,
    )
