use Rattle.std.proofs.Common.{ap}
use Rattle.std.specs.Option.{option_copied}
use Rattle.script_text.proofs.PairLemmas.{pairs_on}
use Rattle.script_text.proofs.orders.pairs_of.Goals as goal

pub loop-left-preserved : goal.loop-left-preserved
loop-left-preserved c =
    pairs_on c.loop-left.names.keys c.loop-left.pairs (option_copied c.loop-left.left) c.in-Some.rest.now c.cut.result.0.now (option_copied c.cut.result.1) c.in-Some-behind.behind.now
    c.cut-in-Some.result.0.now _ c.take_pair.new.names.keys c.take_pair.new.pairs c.in_ok-take_pair.field-0 _
    c.loop-left.invariant (ap option_copied c.in-Some.is) c.cut.ensures.pieces (ap option_copied c.in-Some-behind.is) c.cut-in-Some.ensures.pieces
    c.in_ok-take_pair.ensures c.if-not-branch.false
