use Rattle.std.proofs.Common.{◌≡◌, ◌+◌, ◌++◌, ◌∷◌, [], sym, ap, ◌∙◌, subst}
use Rattle.ask_history.specs.Engine.{EngineState}
use Rattle.engine_driver.specs.History.{journal_of}
use Rattle.engine_driver.specs.Serving.{Drives}
use Rattle.engine_driver.proofs.Asks.{none_next}
use Rattle.engine_driver.proofs.Feeding.{drives_fed}
use Rattle.engine_driver.proofs.driver.Driver.feed.Goals as goal

pub feed-requires-clause-new_ticket : goal.feed-requires-clause-new_ticket
feed-requires-clause-new_ticket g c =
    none_next (journal_of (g.B.Board.history c.args.board.now)) _ _ (c.requires.drives.serves c.requires.can.waiting.unshut).asked

pub returns-in-Taken-clause-drives : goal.returns-in-Taken-clause-drives
returns-in-Taken-clause-drives g c =
    let fed = c.in-Taken.ensures in
    let rows : c.push_reserved.new.self.items ≡ c.args.self.now.opened.items ++ c.args.self.now.next ∷ [] = c.push_reserved.ensures.items ∙ ap (λ ts. ts ++ c.args.self.now.next ∷ []) c.reserve.ensures.items in
    subst (λ (s : EngineState). Drives (journal_of (g.B.Board.history c.args.board.now)) s (c.args.self.now.next + 1) c.push_reserved.new.self.items) (sym fed.1)
    (subst (Drives (journal_of (g.B.Board.history c.args.board.now)) _ (c.args.self.now.next + 1)) (sym rows)
    (drives_fed _ _ _ _ _ c.requires.drives c.requires.can fed.0))
