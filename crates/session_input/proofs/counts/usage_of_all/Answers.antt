use Rattle.std.proofs.Common.{◌+◌, ◌<◌, ◌≤◌, [], List, length, map, take, drop, take_all, ◌∙◌, ap, sym, subst, arith}
use Rattle.std.proofs.lemmas.List.{map-append}
use Rattle.pc_terms.specs.Bytes.{Bytes}
use Rattle.script_text.specs.Texts.{pair_with}
use Rattle.work_queue.specs.Reloads.{usage_of}
use Rattle.session_input.specs.Sources.{pairs_in, lines_in}
use Rattle.session_input.specs.Counts.{HaveTexts}
use Rattle.session_input.proofs.CountLemmas.{counts-more, counted-nothing, room_part, texts-part}
use Rattle.session_input.proofs.ScriptLemmas.{pairs_in_scripts-more, pairs_in_scripts-split, pairs_in_scripts-with}
use Rattle.session_input.proofs.counts.usage_of_all.Goals as goal

pub count_lines-requires-clause-room : goal.count_lines-requires-clause-room
count_lines-requires-clause-room c =
    let scripts = c.args.scripts.now in
    let i = c.loop-script.script-index in
    let script = c.script-item.result in
    let within : i < length scripts = omega arith in
    rw c.as_slice.ensures (room_part (pair_with c.args.sources.now.entries) (pairs_in (lines_in (take i scripts))) (pairs_in script.lines) (pairs_in (lines_in (drop (i + 1) scripts))) (pairs_in (lines_in scripts))
    (pairs_in_scripts-split scripts i script within c.script-item.is) c.loop-script.invariant
    (rw c.no_counts-counts.ensures.usage (record { text = omega (arith, c.requires.few); names = omega (arith, c.requires.few); map = omega (arith, c.requires.few) })))

pub count_lines-requires-clause-texts : goal.count_lines-requires-clause-texts
count_lines-requires-clause-texts c =
    let scripts = c.args.scripts.now in
    let i = c.loop-script.script-index in
    let script = c.script-item.result in
    let within : i < length scripts = omega arith in
    rw c.as_slice.ensures (texts-part c.args.sources.now.entries (pairs_in (lines_in (take i scripts))) (pairs_in script.lines) (pairs_in (lines_in (drop (i + 1) scripts)))
    (subst (λ (pairs : List (Bytes × Bytes)). HaveTexts c.args.sources.now.entries pairs) (sym (pairs_in_scripts-split scripts i script within c.script-item.is)) c.requires.texts))

pub loop-script-preserved : goal.loop-script-preserved
loop-script-preserved c =
    let with_texts = pair_with c.args.sources.now.entries in
    let scripts = c.args.scripts.now in
    let i = c.loop-script.script-index in
    let script = c.script-item.result in
    let within : i < length scripts = omega arith in
    let own = rw c.as_slice.ensures at c.in_ok-count_lines.ensures in
    rw (ap (map with_texts) (pairs_in_scripts-more scripts i script within c.script-item.is) ∙ map-append with_texts (pairs_in (lines_in (take i scripts))) (pairs_in script.lines))
    (counts-more c.loop-script.invariant own)

pub returns : goal.returns
returns c =
    let sources = c.args.sources.now.entries in
    let scripts = c.args.scripts.now in
    let all : length scripts ≤ c.loop-script.script-index = omega arith in
    let counted = c.loop-script.invariant.counted [] (counted-nothing _ c.no_counts-counts.ensures.usage c.no_counts-counts.ensures.longest) in
    counted.usage ∙ ap (λ ss. usage_of (map (pair_with sources) (pairs_in (lines_in ss)))) (take_all c.loop-script.script-index scripts all)
    ∙ ap usage_of (sym (pairs_in_scripts-with sources scripts))
