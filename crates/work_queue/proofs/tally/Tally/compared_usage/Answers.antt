use Rattle.std.proofs.Common.{◌∙◌, sym, ap, subst, take, ◌+◌, arith}
use Rattle.work_queue.specs.Reloads.{longest, longer, with_text}
use Rattle.work_queue.specs.Tally.{known}
use Rattle.work_queue.proofs.Counting.{IsCounted, text_fits, map_fits, counted-more, longest-before}
use Rattle.work_queue.proofs.tally.Tally.compared_usage.Goals as goal

pub with_text-usage-requires-clause-text : goal.with_text-usage-requires-clause-text
with_text-usage-requires-clause-text c =
    let fits = text_fits c.args.self.now c.args.pairs.now c.loop-i.i c.loop-i.usage c.loop-i.invariant c.loop-i-test.true c.index-pairs-i.result c.index-pairs-i.is c.requires.text in
    omega arith

pub with_text-usage-requires-clause-map : goal.with_text-usage-requires-clause-map
with_text-usage-requires-clause-map c =
    let fits = map_fits c.args.self.now c.args.pairs.now c.loop-i.i c.loop-i.usage c.loop-i.invariant c.loop-i-test.true c.index-pairs-i.result c.index-pairs-i.is c.requires.map in
    omega arith

pub loop-i-preserved : goal.loop-i-preserved
loop-i-preserved c =
    let tally = c.args.self.now in
    let pairs = c.args.pairs.now in
    let pair = c.index-pairs-i.result in
    let counted = counted-more tally pairs c.loop-i.i c.loop-i.usage c.loop-i.invariant c.loop-i-test.true pair c.index-pairs-i.is c.longer-most.result
    (λ before tallied. c.longer-most.ensures ∙ (λ j. longer (c.known.ensures j) (c.longest_among.ensures j)) ∙ ap (λ n. longer (known tally n) (longest (take c.loop-i.i pairs) n)) c.as_str-name.ensures ∙ longest-before tally pairs c.loop-i.i pair.0 before tallied) in
    subst (IsCounted tally pairs (c.loop-i.i + 1)) (sym (c.with_text-usage.ensures ∙ ap (with_text c.loop-i.usage c.longer-most.result) c.len.ensures)) counted
