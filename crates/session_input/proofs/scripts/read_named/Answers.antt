use Rattle.std.proofs.Common.{◌≡◌, ◌∷◌, ◌++◌, [], List, sym, ap, ◌∙◌, subst}
use Rattle.pc_terms.specs.Bytes.{Bytes}
use Rattle.session_input.specs.Clients.{texts_reading}
use Rattle.session_input.specs.Leads.{Leads, Ends}
use Rattle.session_input.proofs.ClientLemmas.{leads_text, ends_text}
use Rattle.session_input.proofs.scripts.read_named.Goals as goal

pub returns-in-Ok-push-clause-comes : goal.returns-in-Ok-push-clause-comes
returns-in-Ok-push-clause-comes g c =
    let content = g.F.Files.content c.args.files.now in
    let texts = c.args.texts.now in
    let name : Bytes = c.args.name.now in
    let named = c.in_ok-name.ensures in
    let own = rw named at c.in-Ok.ensures.comes in
    let now = c.in-Ok-push.ensures.ok ∙ ap (λ (n : Bytes). texts ++ (n, c.in-Ok.text) ∷ []) named in
    subst (λ (ts : List (Bytes × Bytes)). Leads texts_reading content texts ts (name ∷ [])) (sym now) (leads_text content texts name c.in-Ok.text own)

pub returns-in-Err-clause-comes : goal.returns-in-Err-clause-comes
returns-in-Err-clause-comes g c =
    let own = rw c.in_ok-name.ensures at c.in-Err.ensures.comes in
    ends_text (g.F.Files.content c.args.files.now) c.args.texts.now c.args.name.now c.in-Err.none own
