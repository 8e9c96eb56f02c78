use Rattle.std.proofs.Common.{not, rules}
use Rattle.std.specs.List.{list_any}
use Rattle.std.specs.Str.{bytes_eq}
use Rattle.indexmap.proofs.CallerLemmas.{filter-RetainsPairs}
use Rattle.compiler_loop.proofs.loaded.leave_out.Goals as goal

pub returns : goal.returns
returns c =
    filter-RetainsPairs _ (λ file. not (list_any (bytes_eq file.0) c.args.gone.now.keys)) _ (λ k v b w g call. search rules) _ _ c.retain.ensures.filtered
