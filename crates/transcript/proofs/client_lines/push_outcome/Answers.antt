use Rattle.std.proofs.Common.{◌++◌, sym, ap, ◌∙◌}
use Rattle.std.proofs.lemmas.Result.{on_ok_weaker}
use Rattle.transcript.specs.Transcript.{outcome_of, cancel_outcome}
use Rattle.transcript.proofs.client_lines.push_outcome.Goals as goal

pub returns-in-Some : goal.returns-in-Some
returns-in-Some c = on_ok_weaker c.push_indices.result
    (λ wrote journal h. wrote ∙ ap (λ bytes. c.args.text.now ++ bytes)
    ((λ j. cancel_outcome (c.cancel_index.ensures journal h j) (c.settle_index.ensures journal h j)) ∙ sym (ap (outcome_of journal) c.in-Some.is)))
    c.push_indices.ensures
