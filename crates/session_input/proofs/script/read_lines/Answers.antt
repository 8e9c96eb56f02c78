use Rattle.script_text.specs.Reading.{lines_read}
use Rattle.script_text.specs.declared.kinds.ScriptKind.TheVariants as kind
use Rattle.session_input.specs.Sources.{lines_or_bad, text_reading}
use Rattle.session_input.specs.declared.limits.Limit.TheVariants.{ScriptBytes}
use Rattle.session_input.proofs.ReadLemmas.{comes_to-then_ok, comes_to-then_err}
use Rattle.session_input.proofs.TextLemmas.{lines_counts}
use Rattle.session_input.proofs.script.read_lines.Goals as goal

pub returns-in-Ok-clause-comes : goal.returns-in-Ok-clause-comes
returns-in-Ok-clause-comes g c =
    let content = g.F.Files.content c.args.files.now in
    let name = c.args.schedule.now in
    comes_to-then_ok content (λ text. lines_or_bad name (lines_read kind.Schedule text)) (text_reading ScriptBytes name) c.in-Ok.text c.lines_of.result
    c.in-Ok.ensures.comes (c.lines_of.ensures.comes content)

pub returns-in-Ok-clause-counts : goal.returns-in-Ok-clause-counts
returns-in-Ok-clause-counts g c =
    lines_counts c.args.schedule.now (lines_read kind.Schedule c.in-Ok.text) (g.F.Files.content c.args.files.now) c.lines_of.result
    (g.F.Files.faults c.args.files.now) (g.F.Files.faults c.read_text.new.files) (g.F.Files.last_failed c.read_text.new.files)
    (c.lines_of.ensures.comes (g.F.Files.content c.args.files.now)) c.in-Ok.ensures.counts

pub returns-in-Err-clause-comes : goal.returns-in-Err-clause-comes
returns-in-Err-clause-comes g c =
    let content = g.F.Files.content c.args.files.now in
    let name = c.args.schedule.now in
    comes_to-then_err content (λ text. lines_or_bad name (lines_read kind.Schedule text)) (text_reading ScriptBytes name) c.in-Err.none c.in-Err.ensures.comes
