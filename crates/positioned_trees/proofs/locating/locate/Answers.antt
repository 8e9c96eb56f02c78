use Rattle.std.proofs.Common.{sym, subst, ap, ◌∙◌, arith, Some}
use Rattle.std.specs.Option.{IfSome}
use Rattle.positioned_trees.specs.Located.{IsChosen}
use Rattle.positioned_trees.proofs.Choices.{located_past_end, located_within, is_chosen}
use Rattle.positioned_trees.proofs.locating.locate.Goals as goal

pub returns-then-offset-unit-clause-value : goal.returns-then-offset-unit-clause-value
returns-then-offset-unit-clause-value c = sym (located_past_end c.args.unit.now c.args.offset c.requires (omega (arith, c.if-offset-unit.true)))

pub returns-clause-value : goal.returns-clause-value
returns-clause-value c = ap (λ found. Some found.id) c.best_in.ensures ∙ sym (located_within c.args.unit.now c.args.offset c.requires (omega (arith, c.if-offset-unit.false)))

pub returns-clause-choice : goal.returns-clause-choice
returns-clause-choice c =
    subst (λ found. IfSome found (IsChosen c.args.unit.now c.args.offset)) (sym (ap (λ found. Some found.id) c.best_in.ensures ∙ sym (located_within c.args.unit.now c.args.offset c.requires (omega (arith, c.if-offset-unit.false)))))
    (is_chosen c.args.unit.now c.args.offset c.requires (omega (arith, c.if-offset-unit.false)))
