use Rattle.std.proofs.Common.{◌+◌, ◌<◌, ◌≤◌, List, length, map, take, drop, take_all, ◌∙◌, ap, sym, subst, arith}
use Rattle.std.proofs.lemmas.List.{map-append}
use Rattle.pc_terms.specs.Bytes.{Bytes}
use Rattle.script_text.specs.Texts.{pair_with}
use Rattle.ask_history.specs.declared.script.Line.{Line}
use Rattle.session_input.specs.Sources.{pairs_of, pairs_in}
use Rattle.session_input.specs.Counts.{CountsMore, HaveTexts}
use Rattle.session_input.proofs.SourceLemmas.{pairs_in-more, pairs_in-split}
use Rattle.session_input.proofs.CountLemmas.{counts-more, room_part, texts-part}
use Rattle.session_input.proofs.counts.count_lines.Goals as goal

pub count_pairs-requires-clause-room : goal.count_pairs-requires-clause-room
count_pairs-requires-clause-room c =
    let lines = c.args.lines.now in
    let i = c.loop-line.line-index in
    let line = c.line-item.result in
    let within : i < length lines = omega arith in
    rw c.pairs_of.ensures (room_part (pair_with c.args.sources.now.entries) (pairs_in (take i lines)) (pairs_of line.order) (pairs_in (drop (i + 1) lines)) (pairs_in lines)
    (pairs_in-split lines i line within c.line-item.is) c.loop-line.invariant
    c.requires.room)

pub count_pairs-requires-clause-texts : goal.count_pairs-requires-clause-texts
count_pairs-requires-clause-texts c =
    let lines = c.args.lines.now in
    let i = c.loop-line.line-index in
    let line = c.line-item.result in
    let within : i < length lines = omega arith in
    rw c.pairs_of.ensures (texts-part c.args.sources.now.entries (pairs_in (take i lines)) (pairs_of line.order) (pairs_in (drop (i + 1) lines))
    (subst (λ (pairs : List (Bytes × Bytes)). HaveTexts c.args.sources.now.entries pairs) (sym (pairs_in-split lines i line within c.line-item.is)) c.requires.texts))

pub loop-line-preserved : goal.loop-line-preserved
loop-line-preserved c =
    let with_texts = pair_with c.args.sources.now.entries in
    let lines = c.args.lines.now in
    let i = c.loop-line.line-index in
    let line = c.line-item.result in
    let within : i < length lines = omega arith in
    let own = rw c.pairs_of.ensures at c.in_ok-count_pairs.ensures in
    rw (ap (map with_texts) (pairs_in-more lines i line within c.line-item.is) ∙ map-append with_texts (pairs_in (take i lines)) (pairs_of line.order))
    (counts-more c.loop-line.invariant own)

pub returns : goal.returns
returns c =
    let sources = c.args.sources.now.entries in
    let lines = c.args.lines.now in
    let all : length lines ≤ c.loop-line.line-index = omega arith in
    subst (λ (ls : List Line). CountsMore (map (pair_with sources) (pairs_in ls)) c.args.counts.now c.loop-line.counts) (take_all c.loop-line.line-index lines all) c.loop-line.invariant
