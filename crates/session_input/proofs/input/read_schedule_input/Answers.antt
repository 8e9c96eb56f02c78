use Rattle.std.proofs.Common.{map, ◌∙◌}
use Rattle.script_text.specs.Texts.{line_with}
use Rattle.script_text.specs.declared.kinds.ScriptKind.TheVariants as kind
use Rattle.session_input.specs.Sources.{script_reading, pairs_in}
use Rattle.session_input.specs.Input.{with_sources}
use Rattle.session_input.proofs.ReadLemmas.{comes_to-then_err, same_content}
use Rattle.session_input.proofs.SourceLemmas.{have_texts}
use Rattle.session_input.proofs.InputLemmas.{within_counts, sources_end, sources_lead}
use Rattle.session_input.proofs.input.read_schedule_input.Goals as goal

pub returns-in-Err-clause-comes : goal.returns-in-Err-clause-comes
returns-in-Err-clause-comes g c =
    comes_to-then_err (g.F.Files.content c.args.files.now) with_sources (script_reading kind.Schedule c.args.schedule.now) c.in-Err.none c.in-Err.ensures.comes

pub lines_within-requires-clause-texts : goal.lines_within-requires-clause-texts
lines_within-requires-clause-texts g c =
    let comes = rw c.as_slice.ensures at c.in-Ok-read_sources.ensures.comes in
    have_texts (g.F.Files.content c.read_lines.new.files) (pairs_in c.in-Ok.lines) c.in-Ok-read_sources.sources.entries comes

pub returns-in-Ok-read_sources-clause-comes : goal.returns-in-Ok-read_sources-clause-comes
returns-in-Ok-read_sources-clause-comes g c =
    let content = g.F.Files.content c.args.files.now in
    let later = g.F.Files.content c.read_lines.new.files in
    let comes = rw c.as_slice.ensures at c.in-Ok-read_sources.ensures.comes in
    sources_lead content later c.args.schedule.now c.in-Ok.lines (same_content later content c.in-Ok.ensures.content) c.in-Ok.ensures.comes
    c.in-Ok-read_sources.sources.entries c.lines_within.result comes (c.lines_within.ensures.comes later)

pub returns-in-Ok-read_sources-clause-counts : goal.returns-in-Ok-read_sources-clause-counts
returns-in-Ok-read_sources-clause-counts g c =
    within_counts (map (line_with c.in-Ok-read_sources.sources.entries) c.in-Ok.lines) (g.F.Files.content c.args.files.now) c.lines_within.result
    (g.F.Files.faults c.args.files.now) (g.F.Files.faults c.read_sources.new.files) (g.F.Files.last_failed c.read_sources.new.files)
    (c.lines_within.ensures.comes (g.F.Files.content c.args.files.now)) (c.in-Ok-read_sources.ensures.counts ∙ c.in-Ok.ensures.counts)

pub returns-in-Err-read_sources-clause-comes : goal.returns-in-Err-read_sources-clause-comes
returns-in-Err-read_sources-clause-comes g c =
    let content = g.F.Files.content c.args.files.now in
    let later = g.F.Files.content c.read_lines.new.files in
    let comes = rw c.as_slice.ensures at c.in-Err-read_sources.ensures.comes in
    sources_end content later c.args.schedule.now c.in-Ok.lines (same_content later content c.in-Ok.ensures.content) c.in-Ok.ensures.comes
    c.in-Err-read_sources.none comes
