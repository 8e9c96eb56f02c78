use Rattle.std.proofs.Common.{◌<◌, ◌∙◌, sym, arith}
use Rattle.positioned_trees.specs.Trees.{numbered, max_number}
use Rattle.positioned_trees.proofs.Numbers.{high-from_none}
use Rattle.parse_parts.proofs.reader.part_of.Goals as goal

pub unreachable-requires : goal.unreachable-requires
unreachable-requires c =
    let high : max_number < (numbered c.in-Some.tall.tree 0).next = high-from_none _ (sym c.in-None.is ∙ c.number.ensures.next) in
    let low = c.requires.few c.in-Some.tall c.in-Some.is in
    omega (arith, high, low)
