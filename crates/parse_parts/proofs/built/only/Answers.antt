use Rattle.std.proofs.Common.{ap, sym, ◌∙◌}
use Rattle.parse_parts.specs.Built as spec
use Rattle.parse_parts.proofs.Kept.{last-append}
use Rattle.parse_parts.proofs.built.only.Goals as goal

pub returns : goal.returns
returns c = sym (ap spec.only c.in-Some.is ∙ ap (λ ts. spec.tall_of c.in-Some.kids.height (spec.last ts)) c.in_ok-tree.ensures ∙ ap (spec.tall_of c.in-Some.kids.height) (last-append c.pop.new.self c.in_ok-tree.tree))
