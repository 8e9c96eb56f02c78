use Rattle.std.proofs.Common.{◌∙◌, sym}
use Rattle.session_input.specs.Counts.{first_passed}
use Rattle.session_input.proofs.ScriptLemmas.{all_calls-with}
use Rattle.session_input.proofs.counts.passed_by_all.Goals as goal

pub returns : goal.returns
returns c =
    let calls = c.count_all_calls-calls.ensures ∙ sym (all_calls-with c.args.sources.now.entries c.args.scripts.now) in
    c.first_passed.ensures ∙ (λ i. first_passed (calls i) (c.in_ok-usage.ensures i))
