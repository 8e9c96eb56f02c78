use Rattle.std.proofs.Common.{not, ap, ◌∙◌}
use Rattle.std.specs.List.{list_any}
use Rattle.std.specs.Map.{keys_of}
use Rattle.std.specs.Str.{bytes_eq}
use Rattle.std.proofs.lemmas.List.Elements.{filter_agree}
use Rattle.compiler_loop.specs.Loaded.{texts_of}
use Rattle.compiler_loop.proofs.CheckLemmas.{ahead_filter, ahead_same}
use Rattle.compiler_loop.proofs.LoadedLemmas.{keys_of_filter, texts_of_filter}
use Rattle.compiler_loop.proofs.loaded.LoadedFiles.remove.Goals as goal

pub invariant_of-self : goal.invariant_of-self
invariant_of-self c =
    let files = c.args.self.now.files.entries in
    let names = ap keys_of c.leave_out.ensures ∙ keys_of_filter (λ name. not (list_any (bytes_eq name) c.args.removal.now.gone.keys)) files in
    record {
      known = λ x e. cc;
      ahead = ahead_same _ _ _ _ _ _ c.remove.ensures.due c.remove.ensures.outcomes names (ahead_filter _ _ _ _ c.requires.due c.args.self.now.ahead);
    }

pub returns-clause-files : goal.returns-clause-files
returns-clause-files c =
    let files = c.args.self.now.files.entries in
    ap texts_of c.leave_out.ensures
    ∙ texts_of_filter (λ name. not (list_any (bytes_eq name) c.args.removal.now.gone.keys)) files
    ∙ filter_agree _ _ (λ file. ap not (c.args.removal.now.same file.0)) (texts_of files)
