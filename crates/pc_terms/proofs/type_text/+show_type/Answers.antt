use Rattle.std.proofs.Common.{arith}
use Rattle.std.proofs.lemmas.Grind.{common_steps}
use Rattle.pc_terms.proofs.TypeTexts.{function_text-map}
use Rattle.pc_terms.proofs.type_text.+show_type.Goals as goal

pub push_function-returns : goal.push_function-returns
push_function-returns t c =
    rw (function_text-map c.args.tys.now _ _ (omega arith) c.index-tys-last.is) (grind (arith, common_steps))
