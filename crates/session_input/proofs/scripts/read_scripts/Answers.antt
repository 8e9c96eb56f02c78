use Rattle.std.proofs.Common.{[], map, string_bytes}
use Rattle.session_input.specs.Clients.{texts_reading, scripts_reading}
use Rattle.session_input.proofs.ReadLemmas.{comes_to-then_ok, comes_to-then_err}
use Rattle.session_input.proofs.ClientLemmas.{scripts_counts}
use Rattle.session_input.proofs.scripts.read_scripts.Goals as goal

pub returns-in-Ok-clause-comes : goal.returns-in-Ok-clause-comes
returns-in-Ok-clause-comes g c =
    let content = g.F.Files.content c.args.files.now in
    let texts = rw c.as_slice.ensures at (c.scripts_of.ensures content) in
    comes_to-then_ok content (scripts_reading []) (texts_reading [] (map string_bytes c.args.names.now)) c.in-Ok.texts c.scripts_of.result c.in-Ok.ensures.comes texts

pub returns-in-Ok-clause-counts : goal.returns-in-Ok-clause-counts
returns-in-Ok-clause-counts g c =
    scripts_counts (g.F.Files.content c.args.files.now) [] c.as_slice.result.now c.scripts_of.result (g.F.Files.faults c.args.files.now) (g.F.Files.faults c.read_texts.new.files)
    (g.F.Files.last_failed c.read_texts.new.files) (c.scripts_of.ensures (g.F.Files.content c.args.files.now)) c.in-Ok.ensures.counts

pub returns-in-Err-clause-comes : goal.returns-in-Err-clause-comes
returns-in-Err-clause-comes g c =
    comes_to-then_err (g.F.Files.content c.args.files.now) (scripts_reading []) (texts_reading [] (map string_bytes c.args.names.now)) c.in-Err.none c.in-Err.ensures.comes
