use Rattle.std.proofs.Common.{◌≡◌, ap, sym, ◌∙◌, subst, map}
use Rattle.std.specs.List.{All}
use Rattle.std.proofs.lemmas.List.Elements.{All-head, All-tail}
use Rattle.expr_steps.specs.Reading.{Pair}
use Rattle.tree_parser.specs.Plain.{Open, IsLevelOf, level_in, levels_in, with_item, braces_of, closed_in}
use Rattle.tree_parser.proofs.plain.curly_closed.Goals as goal

pub returns-in_ok-with_item-in-Some-clause-is : goal.returns-in_ok-with_item-in-Some-clause-is
returns-in_ok-with_item-in-Some-clause-is c =
    let text = c.args.text.now in
    let braces = braces_of (level_in text c.args.levels.current) c.args.end in
    (λ i. Open (record {
      current = (c.in_ok-with_item-in-Some.ensures.is text
          ∙ ap (λ b. with_item (level_in text c.in-Some.outer) (Pair b)) (c.in_ok-new-in-Some.ensures ∙ c.in_ok-braces.ensures)) i;
      around = map (level_in text) c.pop.new.self;
    }))
    ∙ sym (ap (λ l. closed_in braces (map (level_in text) l)) c.in-Some.ensures)

pub returns-in_ok-with_item-in-Some-clause-words : goal.returns-in_ok-with_item-in-Some-clause-words
returns-in_ok-with_item-in-Some-clause-words c =
    let text = c.args.text.now in
    let all = subst (All (IsLevelOf text)) c.in-Some.ensures c.requires.around in
    record {
      current = c.in_ok-with_item-in-Some.ensures.words text (All-head (IsLevelOf text) c.in-Some.outer c.pop.new.self all) tt;
      around = All-tail (IsLevelOf text) c.in-Some.outer c.pop.new.self all;
    }
