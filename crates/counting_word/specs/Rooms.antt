-- A table and limits that stand where a call has picked none.
use Rattle.std.specs.Prelude.{[]}
use Rattle.atomic_table.specs.Seated.{TableId}
use Rattle.work_queue.specs.declared.limits.Limits.{Limits}

abbrev pub no_table : TableId
no_table = record { words = 0; slots = 0; views_name = 0; atom = 0; block = 0; offset = 0; slot_names = [] }

abbrev pub no_limits : Limits
no_limits = record { calls = 0; text = 0; names = 0; map = 0; file = 0 }
