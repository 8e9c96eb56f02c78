use Rattle.std.proofs.Common.{◌≤◌, length, cond, ◌∙◌, ap, sym, subst, unwrap_or, max, Some, arith}
use Rattle.std.specs.Str.{bytes_eq}
use Rattle.indexmap.specs.IndexMap.{get}
use Rattle.pc_terms.specs.Bytes.{max_source_bytes}
use Rattle.script_text.specs.Texts.{text_at, pair_with}
use Rattle.work_queue.specs.declared.usage.Usage.{Usage}
use Rattle.work_queue.specs.Reloads.{with_text}
use Rattle.session_input.specs.Counts.{HasRoom}
use Rattle.session_input.proofs.CountLemmas.{room-one, counted-one}
use Rattle.session_input.proofs.counts.count_pair.Goals as goal

pub with_text-counts-requires-clause-text : goal.with_text-counts-requires-clause-text
with_text-counts-requires-clause-text c =
    let small : length (text_at c.args.sources.now.entries c.args.pair.now.1) ≤ max_source_bytes = c.requires.texts 0 c.args.pair.now (omega arith) in
    omega arith

pub with_text-counts-requires-clause-map : goal.with_text-counts-requires-clause-map
with_text-counts-requires-clause-map c =
    let small : length (text_at c.args.sources.now.entries c.args.pair.now.1) ≤ max_source_bytes = c.requires.texts 0 c.args.pair.now (omega arith) in
    omega arith

pub returns : goal.returns
returns c =
    let old = c.args.counts.now in
    let name = c.args.pair.now.0 in
    let pair = pair_with c.args.sources.now.entries c.args.pair.now in
    let small : length pair.1 ≤ max_source_bytes = c.requires.texts 0 c.args.pair.now (omega arith) in
    let most = c.copied-most.ensures ∙ c.get.ensures.value in
    let len = c.text_len-len.ensures in
    let usage = c.with_text-counts.ensures ∙ (λ i. with_text old.usage (most i) (len i)) in
    let value = c.max.ensures ∙ (λ i. max ((c.unwrap_or.ensures ∙ ap (λ m. unwrap_or m 0) most) i) (len i)) in
    record {
      counted = λ before are. counted-one pair are usage
          (λ q. c.in_ok-insert.ensures.updates.0 q ∙ (λ i. cond (bytes_eq (c.in_ok-clone.ensures.cases i) q) (Some (value i)) (get bytes_eq old.longest q)));
      room = λ texts room. subst (λ (u : Usage). HasRoom texts u) (sym usage) (room-one old.usage (get bytes_eq old.longest name) (length pair.1) texts small room);
    }
