use Rattle.std.proofs.Common.{inl, refl, Ok, Err, subst}
use Rattle.ask_history.specs.Sources.{Sources}
use Rattle.session_input.specs.Reads.{ComesTo}
use Rattle.session_input.specs.Sources.{pairs_in, sources_reading}
use Rattle.session_input.proofs.SourceLemmas.{led, ended}
use Rattle.session_input.proofs.sources.read_sources.Goals as goal

pub returns-in-Ok-clause-comes : goal.returns-in-Ok-clause-comes
returns-in-Ok-clause-comes g c =
    subst (λ (before : Sources). ComesTo (g.F.Files.content c.args.files.now) (sources_reading before (pairs_in c.args.lines.now)) (Ok c.read_sources_in.new.sources.entries)) c.new-sources.ensures.empty
    (led (inl refl) refl c.in-Ok.ensures.comes)

pub returns-in-Err-clause-comes : goal.returns-in-Err-clause-comes
returns-in-Err-clause-comes g c =
    subst (λ (before : Sources). ComesTo {A = Sources} (g.F.Files.content c.args.files.now) (sources_reading before (pairs_in c.args.lines.now)) (Err c.in-Err.none)) c.new-sources.ensures.empty
    (ended refl c.in-Err.ensures.comes)
