use Rattle.std.proofs.Common.{◌≡◌, ◌∷◌, [], List, sym, subst}
use Rattle.ask_history.specs.declared.script.Script.{Script}
use Rattle.session_input.specs.Clients.{scripts_reading}
use Rattle.session_input.specs.Leads.{Leads}
use Rattle.session_input.proofs.ClientLemmas.{leads_script, ends_script}
use Rattle.session_input.proofs.SourceLemmas.{ends-nothing}
use Rattle.session_input.proofs.scripts.add_script.Goals as goal

pub returns-in-Ok-push : goal.returns-in-Ok-push
returns-in-Ok-push c = λ content.
    subst (λ (now : List Script). Leads scripts_reading content c.args.scripts.now now (c.args.named.now ∷ [])) (sym c.in-Ok-push.ensures.ok)
    (leads_script content c.args.scripts.now c.args.named.now c.in-Ok.lines (c.in-Ok.ensures content))

pub returns-in-Err-push : goal.returns-in-Err-push
returns-in-Err-push c = λ content. ends-nothing scripts_reading content c.args.scripts.now (c.args.named.now ∷ [])

pub returns-in-Err : goal.returns-in-Err
returns-in-Err c = λ content. ends_script content c.args.scripts.now c.args.named.now c.in-Err.none (c.in-Err.ensures content)
