use Rattle.std.proofs.Common.{◌≡◌, false, ◌∷◌, [], sym, subst}
use Rattle.ask_history.specs.Sources.{Sources, is_loaded}
use Rattle.session_input.specs.Leads.{LeadsOn}
use Rattle.session_input.proofs.SourceLemmas.{leads-read, ends-read}
use Rattle.session_input.proofs.sources.read_source.Goals as goal

pub returns-in-Ok-keep-clause-comes : goal.returns-in-Ok-keep-clause-comes
returns-in-Ok-keep-clause-comes g c =
    let content = g.F.Files.content c.args.files.now in
    let sources = c.args.sources.now.entries in
    let pair = c.args.pair.now in
    let new : is_loaded sources pair.1 ≡ false = sym c.if-is_loaded.ensures in
    subst (λ (now : Sources). LeadsOn content sources now (pair ∷ [])) (sym c.in-Ok-keep.ensures)
    (leads-read content sources pair c.in-Ok.text new c.in-Ok.ensures.comes)

pub returns-in-Err-clause-comes : goal.returns-in-Err-clause-comes
returns-in-Err-clause-comes g c =
    let sources = c.args.sources.now.entries in
    let pair = c.args.pair.now in
    let new : is_loaded sources pair.1 ≡ false = sym c.if-is_loaded.ensures in
    ends-read (g.F.Files.content c.args.files.now) sources pair c.in-Err.none new c.in-Err.ensures.comes
