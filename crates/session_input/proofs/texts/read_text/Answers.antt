use Rattle.session_input.proofs.TextLemmas.{accepted_counts}
use Rattle.session_input.proofs.texts.read_text.Goals as goal

pub returns-in-Ok-clause-counts : goal.returns-in-Ok-clause-counts
returns-in-Ok-clause-counts g c =
    accepted_counts c.args.limit c.args.name.now c.in-Ok.bytes.items (g.F.Files.content c.args.files.now) c.accepted.result
    (g.F.Files.faults c.args.files.now) (g.F.Files.faults c.read.new.self) (g.F.Files.last_failed c.read.new.self)
    (c.accepted.ensures.comes (g.F.Files.content c.args.files.now)) c.in-Ok.ensures.counts.0
