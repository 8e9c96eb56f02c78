use Rattle.std.proofs.Common.{◌++◌, ◌∷◌, [], cond, not, refl, sym, ap, ◌∙◌, arith}
use Rattle.std.specs.Map.{keys_of}
use Rattle.compiler_loop.proofs.CheckLemmas.{ahead_put, ahead_same}
use Rattle.compiler_loop.proofs.CoreLemmas.{of_ok}
use Rattle.compiler_loop.proofs.LoadedLemmas.{keys_of_insert}
use Rattle.compiler_loop.proofs.loaded.LoadedFiles.put.Goals as goal

pub invariant_of-self : goal.invariant_of-self
invariant_of-self c =
    let files = c.args.self.now.files.entries in
    let entries = of_ok _ (c.insert.ensures.succeeds c.requires.room.files) c.insert.ensures.entries in
    let names = ap keys_of entries ∙ keys_of_insert files c.args.file.name c.args.file.source ∙ ap (λ loaded. cond loaded (keys_of files) (keys_of files ++ c.args.file.name ∷ [])) (sym c.contains_key-is_new.ensures) in
    let put = ahead_put _ _ _ _ _ _ c.requires.due c.args.self.now.ahead names in
    let due = ap (λ name. cond (not c.contains_key-is_new.result) (c.args.self.now.checks.due.items ++ name ∷ []) c.args.self.now.checks.due.items) c.args.file.same in
    record { known = λ x e. cc; ahead = ahead_same _ _ _ _ _ _ (c.add.ensures.due ∙ due) c.add.ensures.outcomes refl put }

pub returns-clause-room : goal.returns-clause-room
returns-clause-room c = λ more room. record { files = omega arith; checks = c.add.ensures.room more room.checks }
