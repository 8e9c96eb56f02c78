use Rattle.std.proofs.Common.{◌≡◌, ap, sym, ◌∙◌, subst, length, arith}
use Rattle.std.specs.List.{All}
use Rattle.parse_parts.specs.Words.{IsCut}
use Rattle.parse_parts.proofs.Cuts.{scanned-cuts, scanned-few}
use Rattle.tree_parser.proofs.units.read_unit.Goals as goal

pub kids_of-requires-clause-cut : goal.kids_of-requires-clause-cut
kids_of-requires-clause-cut c =
    subst (All (IsCut c.args.text.now)) (sym (c.as_slice.ensures ∙ ap (λ found. found.tokens) c.requires.scanned)) (scanned-cuts c.args.text.now c.utf8.text)

pub kids_of-requires-clause-few : goal.kids_of-requires-clause-few
kids_of-requires-clause-few c =
    omega (arith, scanned-few c.args.text.now c.utf8.text, ap length (c.as_slice.ensures ∙ ap (λ found. found.tokens) c.requires.scanned), c.requires.short)
