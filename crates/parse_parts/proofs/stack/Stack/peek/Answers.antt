use Rattle.std.proofs.Common.{◌<◌, length, get_or, ◌-◌, drop, ap, sym, ◌∙◌, subst, Some}
use Rattle.parse_parts.specs.Steps.{first}
use Rattle.parse_parts.proofs.Stacks.{peeked}
use Rattle.parse_parts.proofs.stack.Stack.peek.Goals as goal

pub returns-then-depth-items : goal.returns-then-depth-items
returns-then-depth-items g c =
    ap Some c.index-items-items.is
    ∙ ap (λ xs. Some (get_or xs (length xs - 1 - c.args.depth) c.index-items-items.result)) c.as_slice-items.ensures.value
    ∙ sym (peeked c.self.inside.items.items c.args.depth c.index-items-items.result (subst (λ xs. c.args.depth < length xs) c.as_slice-items.ensures.value c.if-depth-items.true))
    ∙ ap (λ xs. first (drop c.args.depth xs)) c.self.view_is
