use Rattle.std.proofs.Common.{not, rules}
use Rattle.std.specs.List.{list_any}
use Rattle.std.specs.Str.{bytes_eq}
use Rattle.std.proofs.lemmas.Fn.{filter_same}
use Rattle.compiler_loop.proofs.checks.Checks.remove.Goals as goal

pub returns-clause-due : goal.returns-clause-due
returns-clause-due c =
    filter_same _ (λ name. not (list_any (bytes_eq name) c.args.gone.now.keys)) _ (λ x r f' k. search rules) _ _ c.retain.ensures.filtered
