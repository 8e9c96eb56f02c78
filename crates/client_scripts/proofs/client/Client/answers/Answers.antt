use Rattle.std.proofs.Common.{[], ◌∷◌, ◌++◌, sym, ap, ◌∙◌}
use Rattle.std.specs.List.{cons_option}
use Rattle.std.proofs.lemmas.List.Elements.{filter_map-append}
use Rattle.client_scripts.specs.Holding.{had_answer}
use Rattle.client_scripts.proofs.client.Client.answers.Goals as goal

pub loop-one-preserved : goal.loop-one-preserved
loop-one-preserved g c =
    c.in_ok-push_had.ensures ∙ ap (λ found. found ++ cons_option (had_answer c.in-Some.one) []) c.loop-one.invariant
    ∙ sym (filter_map-append had_answer c.loop-one.yielded (c.in-Some.one ∷ []))
