use Rattle.std.proofs.Common.{◌≡◌, ◌^◌, ◌<◌, drop}
use Rattle.pc_terms.specs.Number.{value_of}
use Rattle.tree_parser.proofs.ranges.decimal_value.Given as goal

-- the digits that are left come to the same
abbrev pub invariant-loop-digit : goal.invariant-loop-digit
invariant-loop-digit l = (value_of l.value (drop l.digit-index l.digits) ≡ value_of 0 l.digits) × (l.value < 2 ^ 64)
