use Rattle.std.proofs.Common.{[], ◌∙◌, ap, sym, arith}
use Rattle.work_queue.specs.Reloads.{usage_of}
use Rattle.session_input.proofs.CountLemmas.{counted-nothing, pairs_in-with}
use Rattle.session_input.proofs.counts.usage_of.Goals as goal

pub count_lines-requires-clause-room : goal.count_lines-requires-clause-room
count_lines-requires-clause-room c =
    rw c.no_counts-counts.ensures.usage (record { text = omega (arith, c.requires.few); names = omega (arith, c.requires.few); map = omega (arith, c.requires.few) })

pub returns : goal.returns
returns c =
    let counted = c.in_ok-count_lines.ensures.counted [] (counted-nothing _ c.no_counts-counts.ensures.usage c.no_counts-counts.ensures.longest) in
    counted.usage ∙ ap usage_of (sym (pairs_in-with c.args.sources.now.entries c.args.lines.now))
