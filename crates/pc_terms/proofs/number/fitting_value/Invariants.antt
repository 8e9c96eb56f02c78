use Rattle.std.proofs.Common.{◌≡◌, ◌<◌, length, true}
use Rattle.std.specs.List.{list_all}
use Rattle.std.specs.Char.{is_ascii_digit}
use Rattle.pc_terms.specs.Number.{value_of}
use Rattle.pc_terms.proofs.number.fitting_value.Given as goal

-- the digits that are left make the same value after those read
abbrev pub invariant-loop-rest : goal.invariant-loop-rest
invariant-loop-rest l = (value_of l.value l.rest ≡ value_of 0 l.digits) × (l.value < 4294967296) × (list_all is_ascii_digit l.rest ≡ true)

abbrev pub decreases-loop-rest : goal.decreases-loop-rest
decreases-loop-rest l = length l.rest
