use Rattle.std.proofs.Common.{◌≡◌, ◌+◌, [], Some}
use Rattle.counting_word.specs.History.{engine_number}
use Rattle.desk_checks.proofs.crowd.callers.Given as goal

abbrev pub invariant-loop-each : goal.invariant-loop-each
invariant-loop-each g l = record {
  number : l.engine.pass.name.number ≡ Some engine_number;
  counted : l.engine.pass.name.made ≡ l.engine.made;
  each : l.engine.made ≡ l.initial.engine.made + l._each;
  fresh : l.engine.pass.seen ≡ [];
}
