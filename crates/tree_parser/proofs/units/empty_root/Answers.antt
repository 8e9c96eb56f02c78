use Rattle.std.proofs.Common.{◌≡◌, length, ap, sym, ◌∙◌}
use Rattle.tree_parser.specs.Read.{root_over}
use Rattle.tree_parser.proofs.Roots.{root_low}
use Rattle.tree_parser.proofs.units.empty_root.Goals as goal

pub numbered-requires : goal.numbered-requires
numbered-requires c =
    root_low (length c.args.text.now) c.in-Some.tall (ap (root_over (length c.args.text.now)) (sym c.no_kids.ensures) ∙ sym c.root_over.ensures ∙ c.in-Some.is)
