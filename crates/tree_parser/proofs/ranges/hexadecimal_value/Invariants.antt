use Rattle.std.proofs.Common.{◌≡◌, ◌^◌, ◌<◌, drop}
use Rattle.source_grammar.specs.Units.{hexadecimal_value}
use Rattle.tree_parser.proofs.ranges.hexadecimal_value.Given as goal

-- the digits that are left come to the same
abbrev pub invariant-loop-digit : goal.invariant-loop-digit
invariant-loop-digit l = (hexadecimal_value l.value (drop l.digit-index l.digits) ≡ hexadecimal_value 0 l.digits) × (l.value < 2 ^ 64)
