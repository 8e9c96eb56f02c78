use Rattle.std.proofs.Common.{arith}
use Rattle.symbol_table.proofs.CaseClasses.{at_some}
use Rattle.symbol_table.proofs.Companioned.{companion_step}
use Rattle.symbol_table.proofs.companions.complete_all.Goals as goal

pub loop-number-preserved : goal.loop-number-preserved
loop-number-preserved c =
    let old = c.args.definitions.now.found.items in
    let number = c.loop-number.number in
    let one = at_some old number (omega (arith, c.loop-number-test.true, c.requires.within)) in record {
      kept = c.in_ok-complete.ensures.kept;
      found = companion_step old c.loop-number.definitions.found.items number one.0 one.1 c.loop-number.invariant.kept.next c.loop-number.invariant.kept.apart
          c.loop-number.invariant.found c.complete.new.definitions.found.items c.in_ok-complete.ensures.found;
    }
