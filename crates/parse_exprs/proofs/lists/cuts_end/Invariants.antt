use Rattle.std.proofs.Common.{◌≡◌, drop, map}
use Rattle.parse_exprs.specs.Lists.{end_of, cut_span}
use Rattle.parse_exprs.proofs.lists.cuts_end.Given as goal

abbrev pub invariant-loop-cut : goal.invariant-loop-cut
invariant-loop-cut l = end_of l.end (map cut_span (drop l.cut-index l.cuts)) ≡ end_of l.initial.end (map cut_span l.cuts)
