use Rattle.std.proofs.Common.{[], ◌∷◌, ◌++◌, inl, inr, ap, ◌∙◌, subst}
use Rattle.report_hub.proofs.Reports.{OfEach-told_none, OfEach-told_more}
use Rattle.engine_driver.specs.Board.{noting, Checks}
use Rattle.engine_driver.proofs.Additions.{adds_none, made_quiet, made_one}
use Rattle.engine_driver.proofs.Checking.{drives_noted, adds_noted, adds_unnoted}
use Rattle.engine_driver.proofs.checks.note.Goals as goal

pub returns-then-is_err-clause-made : goal.returns-then-is_err-clause-made
returns-then-is_err-clause-made g c =
    made_quiet g.E.Engine.answer_of g.E.Engine.problems_of _ _ _ _ _ (OfEach-told_none _ _ _) c.reserve.ensures.items (adds_none g.E.Engine.answer_of g.E.Engine.problems_of _)

pub returns-in-Noted-clause-drives : goal.returns-in-Noted-clause-drives
returns-in-Noted-clause-drives g c = λ state next opened drives has. drives_noted _ _ state next opened _ _ _ c.check.ensures has drives

pub returns-in-Noted-clause-made : goal.returns-in-Noted-clause-made
returns-in-Noted-clause-made g c =
    made_one g.E.Engine.answer_of g.E.Engine.problems_of _ _ _ _ _ c.args.file.now c.args.problems
    (OfEach-told_more _ _ [] _ _ _ _ (OfEach-told_none _ _ _) c.tell.ensures)
    (c.push_reserved.ensures.items ∙ ap (λ rows. rows ++ c.args.problems ∷ []) c.reserve.ensures.items)
    (adds_noted g.E.Engine.answer_of g.E.Engine.problems_of _ _ _ _ c.requires.right
    (subst (Checks (g.B.Board.history c.args.board.now) (g.B.Board.history c.check.new.self) c.args.file.now c.args.problems) c.in-Noted.is c.check.ensures))

pub returns-in-ShutDown-clause-drives : goal.returns-in-ShutDown-clause-drives
returns-in-ShutDown-clause-drives g c = λ state next opened drives has. drives_noted _ _ state next opened _ _ _ c.check.ensures has drives

pub returns-in-ShutDown-clause-made : goal.returns-in-ShutDown-clause-made
returns-in-ShutDown-clause-made g c =
    made_quiet g.E.Engine.answer_of g.E.Engine.problems_of _ _ _ _ _ (OfEach-told_none _ _ _) c.reserve.ensures.items
    (adds_unnoted g.E.Engine.answer_of g.E.Engine.problems_of _ _ _ _ c.check.result
    (elim c.in-ShutDown.is [ inl e ↦ ap (noting c.args.file.now c.args.problems) e | inr e ↦ ap (noting c.args.file.now c.args.problems) e ])
    c.check.ensures)
