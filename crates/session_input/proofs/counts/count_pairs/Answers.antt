use Rattle.std.proofs.Common.{◌+◌, ◌<◌, ◌∷◌, [], length, map, take, drop, ◌∙◌, ap, arith}
use Rattle.std.proofs.lemmas.List.{map-append}
use Rattle.script_text.specs.Texts.{pair_with}
use Rattle.script_text.proofs.TextLemmas.{take_one_more}
use Rattle.session_input.proofs.SourceLemmas.{split_at_item}
use Rattle.session_input.proofs.CountLemmas.{counts-more, room_part}
use Rattle.session_input.proofs.counts.count_pairs.Goals as goal

pub count_pair-requires-clause-room : goal.count_pair-requires-clause-room
count_pair-requires-clause-room c =
    let pairs = c.args.pairs.now in
    let i = c.loop-pair.pair-index in
    let pair = c.pair-item.result in
    let within : i < length pairs = omega arith in
    room_part (pair_with c.args.sources.now.entries) (take i pairs) (pair ∷ []) (drop (i + 1) pairs) pairs (split_at_item pairs i pair within c.pair-item.is) c.loop-pair.invariant c.requires.room

pub loop-pair-preserved : goal.loop-pair-preserved
loop-pair-preserved c =
    let with_texts = pair_with c.args.sources.now.entries in
    let pairs = c.args.pairs.now in
    let i = c.loop-pair.pair-index in
    let pair = c.pair-item.result in
    let within : i < length pairs = omega arith in
    rw (ap (map with_texts) (take_one_more pairs i pair within c.pair-item.is) ∙ map-append with_texts (take i pairs) (pair ∷ []))
    (counts-more c.loop-pair.invariant c.in_ok-count_pair.ensures)
