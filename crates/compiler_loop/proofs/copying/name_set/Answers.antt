use Rattle.std.proofs.Common.{arith, rules}
use Rattle.compiler_loop.proofs.NameLemmas.{knows_one_more}
use Rattle.compiler_loop.proofs.copying.name_set.Goals as goal

pub loop-name-preserved : goal.loop-name-preserved
loop-name-preserved c =
    knows_one_more c.args.names.now c.loop-name.name-index c.in_ok-clone.field-0 _ _ (omega arith) (search rules) c.in_ok-_is_new.ensures.keys c.loop-name.invariant
