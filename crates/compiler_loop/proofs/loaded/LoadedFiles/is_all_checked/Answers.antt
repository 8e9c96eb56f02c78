use Rattle.std.proofs.Common.{◌≡◌, length, sym, ◌∙◌}
use Rattle.std.specs.Map.{keys_of}
use Rattle.std.proofs.lemmas.Bool.Decides.{Decides-eqb}
use Rattle.std.proofs.lemmas.List.{length-map}
use Rattle.compiler_loop.proofs.CheckLemmas.{none_due}
use Rattle.compiler_loop.proofs.loaded.LoadedFiles.is_all_checked.Goals as goal

pub returns-clause-done : goal.returns-clause-done
returns-clause-done c =
    let files = c.args.self.now.files.entries in
    let due = none_due _ _ _ c.args.self.now.ahead in
    let same = Decides-eqb c.past.result c.len.result in
    let len : c.len.result ≡ length (keys_of files) = c.len.ensures.len ∙ sym (length-map files (λ file. file.0)) in
    (λ all. due.0 (sym c.past.ensures ∙ same.0 all ∙ len), λ none. same.1 (c.past.ensures ∙ due.1 none ∙ sym len))
