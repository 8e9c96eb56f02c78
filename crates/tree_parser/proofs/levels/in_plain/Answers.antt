use Rattle.std.proofs.Common.{◌≡◌, None, ap, sym, ◌∙◌, map}
use Rattle.tree_parser.specs.Levels.{level_in, in_plain}
use Rattle.tree_parser.specs.Plain.{plain_in}
use Rattle.tree_parser.proofs.levels.in_plain.Goals as goal

pub returns-in_ok-with_braces-in-Closed-clause-is : goal.returns-in_ok-with_braces-in-Closed-clause-is
returns-in_ok-with_braces-in-Closed-clause-is c =
    let text = c.args.text.now in
    (λ i. record { current = c.in_ok-with_braces-in-Closed.ensures.is text i; around = map (level_in text) c.args.around; plain = None })
    ∙ ap (λ p. in_plain p (level_in text c.args.current) (map (level_in text) c.args.around)) (ap (plain_in text) (sym c.in-Closed.is) ∙ c.in_ok-plain.ensures.is)

pub returns-in_ok-with_braces-in-Closed-clause-words : goal.returns-in_ok-with_braces-in-Closed-clause-words
returns-in_ok-with_braces-in-Closed-clause-words c =
    record { current = c.in_ok-with_braces-in-Closed.ensures.words c.args.text.now c.requires.current; around = c.requires.around; plain = λ x e. cc }
