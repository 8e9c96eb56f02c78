use Rattle.std.proofs.Common.{◌≡◌, true, map, take, string_bytes}
use Rattle.std.specs.List.{list_all}
use Rattle.session_run.specs.Words.{is_operand}
use Rattle.session_run.proofs.modes.are_operands.Given as goal

abbrev pub invariant-loop-word : goal.invariant-loop-word
invariant-loop-word l = list_all is_operand (map string_bytes (take l.word-index l.words)) ≡ true
