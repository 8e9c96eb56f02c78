use Rattle.std.proofs.Common.{◌+◌, ◌<◌, ◌∷◌, [], List, Option, length, drop, ◌∙◌, subst, arith}
use Rattle.pc_terms.specs.Bytes.{Bytes}
use Rattle.session_input.specs.Leads.{LeadsOn, EndsAt}
use Rattle.script_text.proofs.TextLemmas.{take_one_more}
use Rattle.session_input.proofs.ReadLemmas.{same_content}
use Rattle.session_input.proofs.SourceLemmas.{leads-more, ends-more, ends-before, split_at_item}
use Rattle.session_input.proofs.sources.read_sources_of.Goals as goal

pub returns-in-Err-clause-comes : goal.returns-in-Err-clause-comes
returns-in-Err-clause-comes g c =
    let content = g.F.Files.content c.args.files.now in
    let pairs = c.args.pairs.now in
    let i = c.loop-pair.pair-index in
    let pair = c.pair-item.result in
    let within : i < length pairs = omega arith in
    let same = same_content (g.F.Files.content c.loop-pair.files) content c.loop-pair.invariant.content in
    let own = subst (λ (k : Bytes → Option Bytes). EndsAt k c.loop-pair.sources.entries (pair ∷ []) c.in-Err.none) same c.in-Err.ensures.comes in
    let split = split_at_item pairs i pair within c.pair-item.is in
    subst (λ (ps : List (Bytes × Bytes)). EndsAt content c.args.sources.now.entries ps c.in-Err.none) split
    (ends-before (drop (i + 1) pairs) (ends-more c.loop-pair.invariant.leads own))

pub loop-pair-preserved : goal.loop-pair-preserved
loop-pair-preserved g c =
    let content = g.F.Files.content c.args.files.now in
    let pairs = c.args.pairs.now in
    let i = c.loop-pair.pair-index in
    let pair = c.pair-item.result in
    let within : i < length pairs = omega arith in
    let same = same_content (g.F.Files.content c.loop-pair.files) content c.loop-pair.invariant.content in
    let own = subst (λ (k : Bytes → Option Bytes). LeadsOn k c.loop-pair.sources.entries c.read_source.new.sources.entries (pair ∷ [])) same c.in-Ok.ensures.comes in
    record {
      leads = rw (take_one_more pairs i pair within c.pair-item.is) (leads-more c.loop-pair.invariant.leads own);
      content = λ other. c.in-Ok.ensures.content other ∙ c.loop-pair.invariant.content other;
      counts = c.in-Ok.ensures.counts ∙ c.loop-pair.invariant.counts;
    }
