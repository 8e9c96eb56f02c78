use Rattle.std.proofs.Common.{rules, sym, ◌∙◌}
use Rattle.compiler_loop.proofs.TaskLemmas.{is_open_in-asks}
use Rattle.compiler_loop.proofs.core_loop.CoreEngine.feed.Goals as goal

pub open_task-requires : goal.open_task-requires
open_task-requires c = record { ask = search rules; new_ticket = sym (is_open_in-asks c.args.self.now.tasks c.args.ticket) ∙ c.requires.new_ticket }
