use Rattle.std.proofs.Common.{length, ap, arith}
use Rattle.std.proofs.lemmas.List.{length-reverse}
use Rattle.parse_parts.proofs.stack.Stack.len.Goals as goal

pub returns : goal.returns
returns g c = omega (arith, c.len.ensures, c.self.inside.items.ok.0, length-reverse c.self.inside.items.items, ap length c.self.view_is)
