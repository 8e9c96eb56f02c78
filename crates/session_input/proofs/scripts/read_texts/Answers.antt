use Rattle.std.proofs.Common.{inl, refl, ◌≡◌, ◌+◌, ◌<◌, ◌≤◌, ◌∷◌, ◌++◌, [], List, Option, length, map, take, drop, take_all, string_bytes, sym, ◌∙◌, ap, subst, arith}
use Rattle.pc_terms.specs.Bytes.{Bytes}
use Rattle.session_input.specs.Leads.{Leads, Ends}
use Rattle.session_input.specs.Clients.{texts_reading}
use Rattle.session_input.proofs.ReadLemmas.{same_content}
use Rattle.session_input.proofs.SourceLemmas.{leads-more, ends-more, ends-before, led, ended}
use Rattle.session_input.proofs.ScriptLemmas.{names-more, names-split}
use Rattle.session_input.proofs.scripts.read_texts.Goals as goal

pub returns-in-Err-clause-comes : goal.returns-in-Err-clause-comes
returns-in-Err-clause-comes g c =
    let content = g.F.Files.content c.args.files.now in
    let names = c.args.names.now in
    let i = c.loop-name.name-index in
    let name = c.name-item.result in
    let within : i < length names = omega arith in
    let same = same_content (g.F.Files.content c.loop-name.files) content c.loop-name.invariant.content in
    let own = subst (λ (k : Bytes → Option Bytes). Ends texts_reading k c.loop-name.texts (c.as_str.result.now ∷ []) c.in-Err.none) same c.in-Err.ensures.comes in
    let own_name = rw c.as_str.ensures.value at own in
    ended (names-split string_bytes names i name within c.name-item.is) (ends-before (map string_bytes (drop (i + 1) names)) (ends-more c.loop-name.invariant.leads own_name))

pub loop-name-preserved : goal.loop-name-preserved
loop-name-preserved g c =
    let content = g.F.Files.content c.args.files.now in
    let names = c.args.names.now in
    let i = c.loop-name.name-index in
    let name = c.name-item.result in
    let within : i < length names = omega arith in
    let same = same_content (g.F.Files.content c.loop-name.files) content c.loop-name.invariant.content in
    let own = subst (λ (k : Bytes → Option Bytes). Leads texts_reading k c.loop-name.texts c.read_named.new.texts (c.as_str.result.now ∷ [])) same c.in-Ok.ensures.comes in
    let own_name = rw c.as_str.ensures.value at own in
    record {
      leads = rw (names-more string_bytes names i name within c.name-item.is) (leads-more c.loop-name.invariant.leads own_name);
      content = λ other. c.in-Ok.ensures.content other ∙ c.loop-name.invariant.content other;
      counts = c.in-Ok.ensures.counts ∙ c.loop-name.invariant.counts;
    }

pub returns-clause-comes : goal.returns-clause-comes
returns-clause-comes g c =
    let names = c.args.names.now in
    let all : length names ≤ c.loop-name.name-index = omega arith in
    led (inl refl) (ap (λ ns. map string_bytes ns) (take_all c.loop-name.name-index names all)) c.loop-name.invariant.leads
