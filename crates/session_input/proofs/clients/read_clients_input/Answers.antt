use Rattle.std.proofs.Common.{◌≤◌, ◌<◌, ◌∙◌, map, length, string_bytes, arith}
use Rattle.std.proofs.lemmas.List.{length-map}
use Rattle.script_text.specs.Texts.{script_with}
use Rattle.session_input.specs.Limits.{most_of}
use Rattle.session_input.specs.Sources.{pairs_in, lines_in}
use Rattle.session_input.specs.declared.limits.Limit.TheVariants as limit
use Rattle.session_input.proofs.ReadLemmas.{same_content}
use Rattle.session_input.proofs.SourceLemmas.{have_texts}
use Rattle.session_input.proofs.ClientLemmas.{clients_end, client_sources_end, client_sources_lead, scripts_within_counts, few_pairs_read, few_lines_read}
use Rattle.session_input.proofs.clients.read_clients_input.Goals as goal

pub returns-in-Err-clause-comes : goal.returns-in-Err-clause-comes
returns-in-Err-clause-comes g c =
    let content = g.F.Files.content c.args.files.now in
    let names = map string_bytes c.args.names.now in
    let few : length names ≤ most_of limit.Clients = omega (arith, length-map c.args.names.now string_bytes, c.most_of.ensures, c.if-count-most_of.false) in
    clients_end content content names few c.in-Err.none c.in-Err.ensures.comes

pub scripts_within-requires-clause-few : goal.scripts_within-requires-clause-few
scripts_within-requires-clause-few g c =
    let names = map string_bytes c.args.names.now in
    let few : length names ≤ most_of limit.Clients = omega (arith, length-map c.args.names.now string_bytes, c.most_of.ensures, c.if-count-most_of.false) in
    few_pairs_read (g.F.Files.content c.args.files.now) names c.in-Ok.scripts few c.in-Ok.ensures.comes

pub scripts_within-requires-clause-lines : goal.scripts_within-requires-clause-lines
scripts_within-requires-clause-lines g c =
    let names = map string_bytes c.args.names.now in
    let few : length names ≤ most_of limit.Clients = omega (arith, length-map c.args.names.now string_bytes, c.most_of.ensures, c.if-count-most_of.false) in
    few_lines_read (g.F.Files.content c.args.files.now) names c.in-Ok.scripts few c.in-Ok.ensures.comes

pub scripts_within-requires-clause-texts : goal.scripts_within-requires-clause-texts
scripts_within-requires-clause-texts g c =
    let comes = rw c.as_slice.ensures at c.in-Ok-read_all_sources.ensures.comes in
    have_texts (g.F.Files.content c.read_scripts.new.files) (pairs_in (lines_in c.in-Ok.scripts)) c.in-Ok-read_all_sources.sources.entries comes

pub returns-in-Ok-read_all_sources-clause-comes : goal.returns-in-Ok-read_all_sources-clause-comes
returns-in-Ok-read_all_sources-clause-comes g c =
    let content = g.F.Files.content c.args.files.now in
    let later = g.F.Files.content c.read_scripts.new.files in
    let names = map string_bytes c.args.names.now in
    let few : length names ≤ most_of limit.Clients = omega (arith, length-map c.args.names.now string_bytes, c.most_of.ensures, c.if-count-most_of.false) in
    let comes = rw c.as_slice.ensures at c.in-Ok-read_all_sources.ensures.comes in
    client_sources_lead content later names few c.in-Ok.scripts (same_content later content c.in-Ok.ensures.content) c.in-Ok.ensures.comes
    c.in-Ok-read_all_sources.sources.entries c.scripts_within.result comes (c.scripts_within.ensures later)

pub returns-in-Ok-read_all_sources-clause-counts : goal.returns-in-Ok-read_all_sources-clause-counts
returns-in-Ok-read_all_sources-clause-counts g c =
    scripts_within_counts (map (script_with c.in-Ok-read_all_sources.sources.entries) c.in-Ok.scripts) (g.F.Files.content c.args.files.now) c.scripts_within.result
    (g.F.Files.faults c.args.files.now) (g.F.Files.faults c.read_all_sources.new.files) (g.F.Files.last_failed c.read_all_sources.new.files)
    (c.scripts_within.ensures (g.F.Files.content c.args.files.now)) (c.in-Ok-read_all_sources.ensures.counts ∙ c.in-Ok.ensures.counts)

pub returns-in-Err-read_all_sources-clause-comes : goal.returns-in-Err-read_all_sources-clause-comes
returns-in-Err-read_all_sources-clause-comes g c =
    let content = g.F.Files.content c.args.files.now in
    let later = g.F.Files.content c.read_scripts.new.files in
    let names = map string_bytes c.args.names.now in
    let few : length names ≤ most_of limit.Clients = omega (arith, length-map c.args.names.now string_bytes, c.most_of.ensures, c.if-count-most_of.false) in
    let comes = rw c.as_slice.ensures at c.in-Err-read_all_sources.ensures.comes in
    client_sources_end content later names few c.in-Ok.scripts (same_content later content c.in-Ok.ensures.content) c.in-Ok.ensures.comes c.in-Err-read_all_sources.none comes
