use Rattle.std.proofs.Common.{sym, ◌∙◌}
use Rattle.compiler_loop.proofs.StateLemmas.{checks_give}
use Rattle.compiler_loop.proofs.TaskLemmas.{no_top}
use Rattle.compiler_loop.proofs.core_loop.CoreEngine.turn.Goals as goal

pub returns-in-None-clause-gives : goal.returns-in-None-clause-gives
returns-in-None-clause-gives c =
    checks_give _ _ _ _ c.check_first.result (no_top _ (sym c.top.ensures.ticket ∙ c.in-None.is)) c.check_first.ensures.distinct c.check_first.ensures.gives c.check_first.ensures.files
