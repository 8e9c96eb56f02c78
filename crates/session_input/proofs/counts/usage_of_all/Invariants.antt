use Rattle.std.proofs.Common.{map, take}
use Rattle.script_text.specs.Texts.{pair_with}
use Rattle.session_input.specs.Sources.{pairs_in, lines_in}
use Rattle.session_input.specs.Counts.{CountsMore}
use Rattle.session_input.proofs.counts.usage_of_all.Given as goal

abbrev pub invariant-loop-script : goal.invariant-loop-script
invariant-loop-script l = CountsMore (map (pair_with l.fn.sources.entries) (pairs_in (lines_in (take l.script-index l.scripts)))) l.initial.counts l.counts
