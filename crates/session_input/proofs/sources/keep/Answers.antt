use Rattle.std.proofs.Common.{◌∙◌, ap}
use Rattle.std.specs.Str.{bytes_eq}
use Rattle.indexmap.specs.IndexMap.{insert_entry}
use Rattle.session_input.proofs.SourceLemmas.{entries-new}
use Rattle.session_input.proofs.sources.keep.Goals as goal

pub returns : goal.returns
returns c =
    let sources = c.args.sources.now in
    c.in_ok-insert.ensures.entries
    ∙ ap (λ path. insert_entry bytes_eq sources.entries path c.args.text) c.in_ok-clone.ensures.cases
    ∙ entries-new sources c.args.path.now c.args.text c.requires
