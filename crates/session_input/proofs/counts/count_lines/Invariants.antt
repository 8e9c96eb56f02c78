use Rattle.std.proofs.Common.{map, take}
use Rattle.script_text.specs.Texts.{pair_with}
use Rattle.session_input.specs.Sources.{pairs_in}
use Rattle.session_input.specs.Counts.{CountsMore}
use Rattle.session_input.proofs.counts.count_lines.Given as goal

abbrev pub invariant-loop-line : goal.invariant-loop-line
invariant-loop-line l = CountsMore (map (pair_with l.fn.sources.entries) (pairs_in (take l.line-index l.lines))) l.initial.counts l.counts
