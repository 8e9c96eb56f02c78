use Rattle.std.proofs.lemmas.Result.{IfOk-weaker}
use Rattle.std.proofs.Common.{◌≡◌, ◌∙◌}
use Rattle.template_steps.specs.Pieces.{OfBody}
use Rattle.tree_parser.specs.Levels.{level_in, with_part}
use Rattle.tree_parser.proofs.levels.with_body.Goals as goal

pub returns-clause-is : goal.returns-clause-is
returns-clause-is c =
    IfOk-weaker c.with_piece.result _ _
    (λ now is text. is text ∙ (λ i. with_part (level_in text c.args.outer) (OfBody (c.in_ok-new.ensures i)) (c.behind_braces-heading.ensures i)))
    c.with_piece.ensures.is

pub returns-clause-words : goal.returns-clause-words
returns-clause-words c = IfOk-weaker c.with_piece.result _ _ (λ now are text outer. are text outer tt) c.with_piece.ensures.words
