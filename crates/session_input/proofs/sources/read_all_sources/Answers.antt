use Rattle.std.proofs.Common.{inl, refl, ◌+◌, ◌≤◌, ◌<◌, Option, length, drop, ◌∙◌, ap, subst, take_all, arith}
use Rattle.pc_terms.specs.Bytes.{Bytes}
use Rattle.session_input.specs.Leads.{LeadsOn, EndsAt}
use Rattle.session_input.specs.Sources.{pairs_in, lines_in}
use Rattle.session_input.proofs.ReadLemmas.{same_content}
use Rattle.session_input.proofs.SourceLemmas.{leads-more, ends-more, ends-before, ended, led}
use Rattle.session_input.proofs.ScriptLemmas.{pairs_in_scripts-more, pairs_in_scripts-split}
use Rattle.session_input.proofs.sources.read_all_sources.Goals as goal

pub returns-in-Err-clause-comes : goal.returns-in-Err-clause-comes
returns-in-Err-clause-comes g c =
    let content = g.F.Files.content c.args.files.now in
    let scripts = c.args.scripts.now in
    let i = c.loop-script.script-index in
    let script = c.script-item.result in
    let within : i < length scripts = omega arith in
    let same = same_content (g.F.Files.content c.loop-script.files) content c.loop-script.invariant.content in
    let own = subst (λ (k : Bytes → Option Bytes). EndsAt k c.loop-script.sources.entries (pairs_in c.as_slice.result.now) c.in-Err.none) same c.in-Err.ensures.comes in
    let own_pairs = rw c.as_slice.ensures at own in
    ended (pairs_in_scripts-split scripts i script within c.script-item.is) (ends-before (pairs_in (lines_in (drop (i + 1) scripts))) (ends-more c.loop-script.invariant.leads own_pairs))

pub loop-script-preserved : goal.loop-script-preserved
loop-script-preserved g c =
    let content = g.F.Files.content c.args.files.now in
    let scripts = c.args.scripts.now in
    let i = c.loop-script.script-index in
    let script = c.script-item.result in
    let within : i < length scripts = omega arith in
    let same = same_content (g.F.Files.content c.loop-script.files) content c.loop-script.invariant.content in
    let own = subst (λ (k : Bytes → Option Bytes). LeadsOn k c.loop-script.sources.entries c.read_sources_in.new.sources.entries (pairs_in c.as_slice.result.now)) same c.in-Ok.ensures.comes in
    let own_pairs = rw c.as_slice.ensures at own in
    record {
      leads = rw (pairs_in_scripts-more scripts i script within c.script-item.is) (leads-more c.loop-script.invariant.leads own_pairs);
      content = λ other. c.in-Ok.ensures.content other ∙ c.loop-script.invariant.content other;
      counts = c.in-Ok.ensures.counts ∙ c.loop-script.invariant.counts;
    }

pub returns-clause-comes : goal.returns-clause-comes
returns-clause-comes g c =
    let scripts = c.args.scripts.now in
    let all : length scripts ≤ c.loop-script.script-index = omega arith in
    led (inl refl) (ap (λ ss. pairs_in (lines_in ss)) (take_all c.loop-script.script-index scripts all)) c.loop-script.invariant.leads
