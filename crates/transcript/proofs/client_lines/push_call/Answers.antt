use Rattle.std.proofs.Common.{◌≡◌, ◌++◌, true, is_some, sym, ap, ◌∙◌, rules}
use Rattle.std.proofs.lemmas.Bool.{cond-true}
use Rattle.std.proofs.lemmas.Result.{on_ok_weaker}
use Rattle.ask_history.specs.Indices.{settle_index}
use Rattle.transcript.specs.Transcript.{call_text, answered_text}
use Rattle.transcript.proofs.client_lines.push_call.Goals as goal

pub returns-then-is_some : goal.returns-then-is_some
returns-then-is_some c = on_ok_weaker c.push_answered.result
    (λ wrote journal h.
    let settled : is_some c.settle_index.result ≡ true = search rules in
    let there : is_some (settle_index journal c.in-Some.ticket) ≡ true = ap is_some (sym (c.settle_index.ensures journal h)) ∙ settled in
    wrote ∙ ap (λ bytes. c.args.text.now ++ bytes)
    (sym (ap (call_text journal c.args.number c.args.answers.now) c.in-Some.is ∙ cond-true _ (answered_text c.args.number c.args.answers.now) _ there)))
    c.push_answered.ensures
