use Rattle.std.proofs.Common.{◌+◌, ◌≤◌, ◌<◌, List, Option, length, drop, ◌∙◌, ap, subst, take_all, arith}
use Rattle.pc_terms.specs.Bytes.{Bytes}
use Rattle.session_input.specs.Leads.{LeadsOn, EndsAt}
use Rattle.session_input.specs.Sources.{pairs_in}
use Rattle.session_input.proofs.ReadLemmas.{same_content}
use Rattle.session_input.proofs.SourceLemmas.{leads-more, ends-more, ends-before, pairs_in-more, pairs_in-split}
use Rattle.session_input.proofs.sources.read_sources_in.Goals as goal

pub returns-in-Err-clause-comes : goal.returns-in-Err-clause-comes
returns-in-Err-clause-comes g c =
    let content = g.F.Files.content c.args.files.now in
    let lines = c.args.lines.now in
    let i = c.loop-line.line-index in
    let line = c.line-item.result in
    let within : i < length lines = omega arith in
    let same = same_content (g.F.Files.content c.loop-line.files) content c.loop-line.invariant.content in
    let own = subst (λ (k : Bytes → Option Bytes). EndsAt k c.loop-line.sources.entries c.pairs_of.result.now c.in-Err.none) same c.in-Err.ensures.comes in
    let own_pairs = rw c.pairs_of.ensures at own in
    subst (λ (ps : List (Bytes × Bytes)). EndsAt content c.args.sources.now.entries ps c.in-Err.none) (pairs_in-split lines i line within c.line-item.is)
    (ends-before (pairs_in (drop (i + 1) lines)) (ends-more c.loop-line.invariant.leads own_pairs))

pub loop-line-preserved : goal.loop-line-preserved
loop-line-preserved g c =
    let content = g.F.Files.content c.args.files.now in
    let lines = c.args.lines.now in
    let i = c.loop-line.line-index in
    let line = c.line-item.result in
    let within : i < length lines = omega arith in
    let same = same_content (g.F.Files.content c.loop-line.files) content c.loop-line.invariant.content in
    let own = subst (λ (k : Bytes → Option Bytes). LeadsOn k c.loop-line.sources.entries c.read_sources_of.new.sources.entries c.pairs_of.result.now) same c.in-Ok.ensures.comes in
    let own_pairs = rw c.pairs_of.ensures at own in
    record {
      leads = rw (pairs_in-more lines i line within c.line-item.is) (leads-more c.loop-line.invariant.leads own_pairs);
      content = λ other. c.in-Ok.ensures.content other ∙ c.loop-line.invariant.content other;
      counts = c.in-Ok.ensures.counts ∙ c.loop-line.invariant.counts;
    }

pub returns-clause-comes : goal.returns-clause-comes
returns-clause-comes g c =
    let lines = c.args.lines.now in
    let all : length lines ≤ c.loop-line.line-index = omega arith in
    subst (λ (ps : List (Bytes × Bytes)). LeadsOn (g.F.Files.content c.args.files.now) c.args.sources.now.entries c.loop-line.sources.entries ps)
    (ap pairs_in (take_all c.loop-line.line-index lines all)) c.loop-line.invariant.leads
