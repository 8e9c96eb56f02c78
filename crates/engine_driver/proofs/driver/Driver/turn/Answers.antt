use Rattle.std.proofs.Common.{refl, sym, ◌∙◌, ap, subst}
use Rattle.report_hub.proofs.Reports.{OfEach-told_none}
use Rattle.ask_history.specs.Engine.{EngineState}
use Rattle.engine_driver.specs.History.{journal_of}
use Rattle.engine_driver.specs.Runs.{Types, TakesOff, Checks, Skips, Waits}
use Rattle.engine_driver.specs.Serving.{Drives}
use Rattle.engine_driver.proofs.Later.{drives_later}
use Rattle.engine_driver.proofs.Additions.{adds_later, adds_none, made_quiet}
use Rattle.engine_driver.proofs.Asks.{top_asked}
use Rattle.engine_driver.proofs.Replies.{found_answer}
use Rattle.engine_driver.proofs.Checking.{check_due, checked_noted, drives_skipped}
use Rattle.engine_driver.proofs.driver.Driver.turn.Goals as goal

pub returns-in-Safe-clause-drives : goal.returns-in-Safe-clause-drives
returns-in-Safe-clause-drives g c =
    subst (λ (s : EngineState). Drives (journal_of (g.B.Board.history c.at_safe_point.new.self)) s c.args.self.now.next c.args.self.now.opened.items) (sym c.in-Safe.ensures.gives.1)
    (drives_later _ _ _ _ _ c.at_safe_point.ensures c.requires.drives)

pub returns-in-Safe-clause-made : goal.returns-in-Safe-clause-made
returns-in-Safe-clause-made g c =
    made_quiet g.E.Engine.answer_of g.E.Engine.problems_of _ _ _ _ _ (OfEach-told_none _ _ _) refl (adds_later g.E.Engine.answer_of g.E.Engine.problems_of _ _ c.at_safe_point.ensures)

pub settle_ask-requires-clause-right : goal.settle_ask-requires-clause-right
settle_ask-requires-clause-right g c =
    let told = c.in-Ready.ensures.gives.0 in
    let asked = top_asked _ _ _ _ _ (c.requires.drives.serves c.requires.unshut) told.1 in
    found_answer g.E.Engine.answer_of _ _ told.0 _ asked.called (told.2 ∙ ap (λ files. g.E.Engine.answer_of files told.0) c.requires.drives.sources)

pub returns-in-Ready-clause-made : goal.returns-in-Ready-clause-made
returns-in-Ready-clause-made g c = made_quiet g.E.Engine.answer_of g.E.Engine.problems_of _ _ _ _ _ (OfEach-told_none _ _ _) refl c.settle_ask.ensures.adds

pub returns-in-NoMemory-clause-made : goal.returns-in-NoMemory-clause-made
returns-in-NoMemory-clause-made g c = made_quiet g.E.Engine.answer_of g.E.Engine.problems_of _ _ _ _ _ (OfEach-told_none _ _ _) refl c.settle_ask-in-NoMemory.ensures.adds

pub note-requires-clause-due : goal.note-requires-clause-due
note-requires-clause-due g c = check_due _ _ _ _ _ c.requires.drives c.requires.unshut c.in-Checked.ensures.gives.0

pub returns-in-Checked-clause-drives : goal.returns-in-Checked-clause-drives
returns-in-Checked-clause-drives g c =
    checked_noted _ _ _ _ _ _ c.in-Checked.file c.note.ensures.drives c.in-Checked.ensures.gives.2 c.requires.drives

pub returns-in-CheckNoMemory-clause-drives : goal.returns-in-CheckNoMemory-clause-drives
returns-in-CheckNoMemory-clause-drives g c =
    subst (λ (s : EngineState). Drives (journal_of (g.B.Board.history c.args.board.now)) s c.args.self.now.next c.args.self.now.opened.items) (sym c.in-CheckNoMemory.ensures.gives.1)
    (drives_skipped _ _ _ _ _ c.requires.drives)

pub returns-in-CheckNoMemory-clause-made : goal.returns-in-CheckNoMemory-clause-made
returns-in-CheckNoMemory-clause-made g c = made_quiet g.E.Engine.answer_of g.E.Engine.problems_of _ _ _ _ _ (OfEach-told_none _ _ _) refl (adds_none g.E.Engine.answer_of g.E.Engine.problems_of _)

pub returns-clause-drives : goal.returns-clause-drives
returns-clause-drives g c =
    subst (λ (s : EngineState). Drives (journal_of (g.B.Board.history c.await_calls.new.self)) s c.args.self.now.next c.args.self.now.opened.items) (sym c.in-Idle.ensures.gives.1)
    (drives_later _ _ _ _ _ c.await_calls.ensures.later c.requires.drives)

pub returns-clause-made : goal.returns-clause-made
returns-clause-made g c =
    made_quiet g.E.Engine.answer_of g.E.Engine.problems_of _ _ _ _ _ (OfEach-told_none _ _ _) refl (adds_later g.E.Engine.answer_of g.E.Engine.problems_of _ _ c.await_calls.ensures.later)

pub returns-in-Safe-clause-goes_on : goal.returns-in-Safe-clause-goes_on
returns-in-Safe-clause-goes_on g c = Types c.in-Safe.ensures.lowers

pub returns-in-Ready-clause-goes_on : goal.returns-in-Ready-clause-goes_on
returns-in-Ready-clause-goes_on g c =
    let told = c.in-Ready.ensures.gives.0 in
    TakesOff _ (told.0, told.1) c.settle_ask.ensures.opened

pub returns-in-NoMemory-clause-goes_on : goal.returns-in-NoMemory-clause-goes_on
returns-in-NoMemory-clause-goes_on g c = TakesOff _ c.in-NoMemory.ensures.gives.0 c.settle_ask-in-NoMemory.ensures.opened

pub returns-in-Checked-clause-goes_on : goal.returns-in-Checked-clause-goes_on
returns-in-Checked-clause-goes_on g c = Checks _ c.in-Checked.ensures.gives.0 c.in-Checked.ensures.gives.2

pub returns-in-CheckNoMemory-clause-goes_on : goal.returns-in-CheckNoMemory-clause-goes_on
returns-in-CheckNoMemory-clause-goes_on g c = Skips _ c.in-CheckNoMemory.ensures.gives.0 c.in-CheckNoMemory.ensures.gives.1

pub returns-clause-goes_on : goal.returns-clause-goes_on
returns-clause-goes_on g c = Waits c.in-Idle.ensures.gives.0 c.await_calls.ensures
