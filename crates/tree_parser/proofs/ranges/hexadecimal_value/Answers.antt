use Rattle.std.proofs.Common.{◌≡◌, ◌+◌, ◌*◌, ap, sym, ◌∙◌, arith}
use Rattle.tree_parser.specs.Ranges.{in_64_bits}
use Rattle.tree_parser.proofs.RangeLemmas.{hexadecimal_stops, hexadecimal_done}
use Rattle.tree_parser.proofs.ranges.hexadecimal_value.Goals as goal

pub returns-in-None : goal.returns-in-None
returns-in-None c =
    sym (hexadecimal_stops c.loop-digit.value c.args.digits.now c.loop-digit.digit-index c.loop-digit-test.true c.loop-digit.invariant.0
    (ap (λ digit. in_64_bits (16 * c.loop-digit.value + digit)) (sym c.hexadecimal_digit.ensures) ∙ sym c.in-None.ensures.is))

pub returns : goal.returns
returns c =
    hexadecimal_done c.loop-digit.value c.args.digits.now c.loop-digit.digit-index (omega (arith, c.loop-digit-test.false)) c.loop-digit.invariant.0 c.loop-digit.invariant.1
