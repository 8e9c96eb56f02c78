use Rattle.std.proofs.Common.{rules, sym, ◌∙◌}
use Rattle.compiler_loop.proofs.TaskLemmas.{some_top, asks_of_same, on_top}
use Rattle.compiler_loop.proofs.working.answer_top.Goals as goal

pub top_task-task-requires : goal.top_task-task-requires
top_task-task-requires c = some_top _ _ c.restart_top.ensures.top

pub returns-in-Ok-clause-gives : goal.returns-in-Ok-clause-gives
returns-in-Ok-clause-gives c =
    let top = on_top _ _ _ c.restart_top.ensures.top c.top_task-task.ensures.value in
    (c.top_task-task.result.now.call, (top.0, sym c.restart_top.ensures.asks ∙ top.1), search rules)

pub returns-in-Ok-clause-asks : goal.returns-in-Ok-clause-asks
returns-in-Ok-clause-asks c = asks_of_same _ _ c.top_task-task.ensures.value ∙ c.restart_top.ensures.asks

pub returns-in-Err-clause-gives : goal.returns-in-Err-clause-gives
returns-in-Err-clause-gives c =
    let top = on_top _ _ _ c.restart_top.ensures.top c.top_task-task.ensures.value in
    (c.top_task-task.result.now.call, (top.0, sym c.restart_top.ensures.asks ∙ top.1))

pub returns-in-Err-clause-asks : goal.returns-in-Err-clause-asks
returns-in-Err-clause-asks c = asks_of_same _ _ c.top_task-task.ensures.value ∙ c.restart_top.ensures.asks
