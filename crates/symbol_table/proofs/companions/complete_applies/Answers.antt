use Rattle.std.proofs.Common.{arith}
use Rattle.symbol_table.proofs.Applies.{apply_step}
use Rattle.symbol_table.proofs.CaseClasses.{at_some}
use Rattle.symbol_table.proofs.companions.complete_applies.Goals as goal

pub loop-number-preserved : goal.loop-number-preserved
loop-number-preserved c =
    let old = c.args.definitions.now.found.items in
    let number = c.loop-number.number in
    let one = at_some old number (omega (arith, c.loop-number-test.true, c.requires.within)) in record {
      kept = c.in_ok-complete_apply.ensures.kept;
      found = λ well. apply_step old c.loop-number.definitions.found.items c.args.problems.now.items c.loop-number.problems.items number one.0 one.1
          c.loop-number.invariant.kept.next c.loop-number.invariant.kept.apart well (c.loop-number.invariant.found well)
          c.complete_apply.new.definitions.found.items c.complete_apply.new.problems.items c.in_ok-complete_apply.ensures.found c.in_ok-complete_apply.ensures.told;
    }
