use Rattle.std.proofs.Common.{◌≡◌, ap, sym, ◌∙◌, subst}
use Rattle.std.specs.List.{All}
use Rattle.parse_parts.specs.Words.{IsCut}
use Rattle.parse_parts.proofs.Cuts.{scanned-cuts}
use Rattle.tree_parser.proofs.units.parse_unit.Goals as goal

pub brackets_of-requires : goal.brackets_of-requires
brackets_of-requires c =
    subst (All (IsCut c.args.text.now)) (sym (c.as_slice.ensures ∙ ap (λ found. found.tokens) c.in_ok-tokens.ensures.exact)) (scanned-cuts c.args.text.now c.utf8.text)
