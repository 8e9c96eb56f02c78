use Rattle.std.proofs.Common.{◌≡◌, ◌-◌, ap, sym, ◌∙◌, drop}
use Rattle.std.specs.Option.{option_map}
use Rattle.parse_parts.specs.Steps.{first}
use Rattle.tree_parser.proofs.Roles.{left_open-last, span_in}
use Rattle.tree_parser.proofs.brackets.left_open.Goals as goal

pub returns-in-Some : goal.returns-in-Some
returns-in-Some c =
    ap (option_map span_in) c.in-Some.ensures
    ∙ ap (λ n. option_map span_in (first (drop (n - 1) c.args.opened.now))) c.len.ensures ∙ sym (left_open-last c.args.opened.now)

pub returns-in-None : goal.returns-in-None
returns-in-None c =
    ap (option_map span_in) c.in-None.ensures
    ∙ ap (λ n. option_map span_in (first (drop (n - 1) c.args.opened.now))) c.len.ensures ∙ sym (left_open-last c.args.opened.now)
