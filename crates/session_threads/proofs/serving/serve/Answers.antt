use Rattle.std.proofs.Common.{◌++◌, ap, ◌∙◌}
use Rattle.session_threads.proofs.serving.serve.Goals as goal

pub returns-clause-told : goal.returns-clause-told
returns-clause-told g c =
    let serves = c.drive-pass.ensures.drives.serves in
    rw (serves.behind ∙ ap (λ es. es ++ serves.entries) c.requires.pass.new.unseen) c.drive-pass.ensures.drives.told
