use Rattle.std.proofs.Common.{◌∙◌, sym}
use Rattle.session_input.proofs.SourceLemmas.{loaded-lookup}
use Rattle.session_input.proofs.sources.is_loaded.Goals as goal

pub returns : goal.returns
returns c = c.contains_key.ensures ∙ sym (loaded-lookup c.args.sources.now c.args.path.now)
