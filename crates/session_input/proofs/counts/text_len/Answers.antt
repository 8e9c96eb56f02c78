use Rattle.std.proofs.Common.{length, unwrap_or, ◌∙◌, ap}
use Rattle.session_input.proofs.CountLemmas.{text_of-lookup}
use Rattle.session_input.proofs.counts.text_len.Goals as goal

pub returns-in-Some : goal.returns-in-Some
returns-in-Some c =
    let found = c.in-Some.ensures.value ∙ text_of-lookup c.args.sources.now.entries c.args.path.now in
    c.len.ensures ∙ ap (λ text. length (unwrap_or text c.args.path.now)) found

pub returns-in-None : goal.returns-in-None
returns-in-None c =
    let found = c.in-None.ensures.value ∙ text_of-lookup c.args.sources.now.entries c.args.path.now in
    c.len-in-None.ensures ∙ ap (λ text. length (unwrap_or text c.args.path.now)) found
