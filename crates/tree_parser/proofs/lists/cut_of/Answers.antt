use Rattle.std.proofs.Common.{◌≡◌, false, ap, sym, ◌∙◌}
use Rattle.pc_terms.specs.declared.problems.Span.{Span}
use Rattle.parse_exprs.specs.Lists.{cut_of}
use Rattle.template_steps.specs.Pieces.{of_parts, parts_in}
use Rattle.tree_parser.proofs.Dividing.{first_span, broken_cut}
use Rattle.tree_parser.proofs.lists.cut_of.Goals as goal

pub returns-in-Some-clause-is : goal.returns-in-Some-clause-is
returns-in-Some-clause-is c =
    ap (λ (span : Span). record { skip = c.args.skip; count = c.in-Some.count; broken = false; span = span })
    (c.pieces_span.ensures ∙ first_span c.args.text.now c.in-Some.count c.args.pieces.now)
    ∙ ap (λ best. cut_of of_parts c.args.skip best (parts_in c.args.text.now c.args.pieces.now)) (sym c.in-Some.is)

pub returns-in-None-clause-is : goal.returns-in-None-clause-is
returns-in-None-clause-is c =
    broken_cut c.args.text.now c.args.skip c.args.pieces.now c.broken_length-count.result c.pieces_span-in-None.result c.broken_length-count.ensures.is c.pieces_span-in-None.ensures
    ∙ ap (λ best. cut_of of_parts c.args.skip best (parts_in c.args.text.now c.args.pieces.now)) (sym c.in-None.is)
