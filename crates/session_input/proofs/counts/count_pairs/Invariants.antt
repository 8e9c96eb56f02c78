use Rattle.std.proofs.Common.{map, take}
use Rattle.script_text.specs.Texts.{pair_with}
use Rattle.session_input.specs.Counts.{CountsMore}
use Rattle.session_input.proofs.counts.count_pairs.Given as goal

abbrev pub invariant-loop-pair : goal.invariant-loop-pair
invariant-loop-pair l = CountsMore (map (pair_with l.fn.sources.entries) (take l.pair-index l.pairs)) l.initial.counts l.counts
