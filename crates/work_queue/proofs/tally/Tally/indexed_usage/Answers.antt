use Rattle.std.proofs.Common.{◌≡◌, ◌∙◌, ◌++◌, ◌∷◌, [], ℕ, Option, Some, max, unwrap_or, length, sym, ap, subst, take, ◌+◌, arith}
use Rattle.std.specs.Map.{update}
use Rattle.std.specs.Str.{bytes_eq}
use Rattle.std.proofs.lemmas.List.{take_more}
use Rattle.std.proofs.lemmas.Map.Text.{hash_map_updates_str}
use Rattle.indexmap.specs.IndexMap.{get_by}
use Rattle.ask_history.specs.Sources.{Bytes}
use Rattle.work_queue.specs.Reloads.{longest, longer, with_text}
use Rattle.work_queue.specs.Tally.{known}
use Rattle.work_queue.proofs.Usages.{longest-update}
use Rattle.work_queue.proofs.Counting.{IsCounted, text_fits, map_fits, counted-more, longest-before}
use Rattle.work_queue.proofs.tally.Tally.indexed_usage.Goals as goal

pub with_text-usage-requires-clause-text : goal.with_text-usage-requires-clause-text
with_text-usage-requires-clause-text c =
    let fits = text_fits c.args.self.now c.args.pairs.now c.loop-i.i c.loop-i.usage c.loop-i.invariant.counted c.loop-i-test.true c.index-pairs-i.result c.index-pairs-i.is c.requires.text in
    omega arith

pub with_text-usage-requires-clause-map : goal.with_text-usage-requires-clause-map
with_text-usage-requires-clause-map c =
    let fits = map_fits c.args.self.now c.args.pairs.now c.loop-i.i c.loop-i.usage c.loop-i.invariant.counted c.loop-i-test.true c.index-pairs-i.result c.index-pairs-i.is c.requires.map in
    omega arith

pub loop-i-preserved : goal.loop-i-preserved
loop-i-preserved c =
    let tally = c.args.self.now in
    let pairs = c.args.pairs.now in
    let pair = c.index-pairs-i.result in
    let i = c.loop-i.i in
    let seen : Bytes → Option ℕ = λ name. get_by (λ k. bytes_eq name k.now) c.loop-i.seen in
    let found : c.copied-among.result ≡ seen pair.0 = c.copied-among.ensures ∙ c.get.ensures.value ∙ ap seen c.as_str-name.ensures in
    let counted = counted-more tally pairs i c.loop-i.usage c.loop-i.invariant.counted c.loop-i-test.true pair c.index-pairs-i.is c.longer-most.result
    (λ before tallied. c.longer-most.ensures
    ∙ (λ j. longer ((c.known.ensures ∙ ap (known tally) c.as_str-name.ensures) j) ((found ∙ c.loop-i.invariant.indexed pair.0) j))
    ∙ longest-before tally pairs i pair.0 before tallied) in
    let more = take_more pairs i pair c.loop-i-test.true ∙ ap (λ e. take i pairs ++ e ∷ []) (sym c.index-pairs-i.is) in
    let value : c.max.result ≡ max (unwrap_or (seen pair.0) 0) (length pair.1) = c.max.ensures ∙ (λ j. max ((c.unwrap_or.ensures ∙ ap (λ o. unwrap_or o 0) found) j) (c.len-len.ensures j)) in
    record {
      counted = subst (IsCounted tally pairs (i + 1)) (sym (c.with_text-usage.ensures ∙ ap (with_text c.loop-i.usage c.longer-most.result) c.len-len.ensures)) counted;
      indexed = λ name.
          hash_map_updates_str c.as_str-name.result.now c.loop-i.seen c.insert.new.self (Some c.max.result) c.in_ok-insert.ensures.updates name
          ∙ (λ j. update bytes_eq seen (c.as_str-name.ensures j) (Some (value j)) name)
          ∙ longest-update (take i pairs) pair seen c.loop-i.invariant.indexed name
          ∙ ap (λ es. longest es name) (sym more);
    }
