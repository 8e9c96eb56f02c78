use Rattle.std.proofs.Common.{◌≡◌, ◌+◌, ap, ◌∙◌}
use Rattle.tree_parser.specs.Packaged.{semicolons}
use Rattle.tree_parser.proofs.Behind.{rest_is}
use Rattle.tree_parser.proofs.packages.behind_clause.Goals as goal

pub returns-clause-is : goal.returns-clause-is
returns-clause-is c =
    ap (λ n. c.args.behind + n) (c.semicolons.ensures.is ∙ ap semicolons (rest_is c.args.text.now c.args.tokens.now c.args.behind))
