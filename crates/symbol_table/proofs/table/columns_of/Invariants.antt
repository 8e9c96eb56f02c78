use Rattle.std.proofs.Common.{◌≡◌, ◌++◌, length}
use Rattle.std.specs.Vec.Iter.{into_iter_items, into_iter_len}
use Rattle.symbol_table.specs.Made.{AreColumns}
use Rattle.symbol_table.proofs.table.columns_of.Given as goal

-- the definitions so far have their columns
abbrev pub invariant-loop-each : goal.invariant-loop-each
invariant-loop-each l = record {
  rest : l.yielded ++ into_iter_items l.each-iterator ≡ into_iter_items l.initial.each-iterator;
  left : into_iter_len l.each-iterator ≡ length (into_iter_items l.each-iterator);
  columns : AreColumns l.yielded l.columns;
}
