use Rattle.engine_driver.proofs.Asks.{may_settle, settled_open}
use Rattle.engine_driver.proofs.Settlings.{drives_asked, adds_settled}
use Rattle.engine_driver.proofs.driver.Driver.settle_ask.Goals as goal

pub settle-requires-clause-unanswered : goal.settle-requires-clause-unanswered
settle-requires-clause-unanswered g c = (may_settle _ _ _ _ _ (c.requires.drives.serves c.requires.unshut) c.requires.opened).unanswered

pub settle-requires-clause-next : goal.settle-requires-clause-next
settle-requires-clause-next g c = (may_settle _ _ _ _ _ (c.requires.drives.serves c.requires.unshut) c.requires.opened).next

pub settled-requires : goal.settled-requires
settled-requires g c = settled_open _ _ _ _ _ (c.requires.drives.serves c.requires.unshut) c.requires.opened

pub returns-clause-drives : goal.returns-clause-drives
returns-clause-drives g c =
    drives_asked _ _ _ _ _ _ _ _ _ _ _ c.requires.drives c.requires.unshut c.requires.opened c.settle.ensures c.settled.ensures c.take_off.ensures.next c.take_off.ensures.opened

pub returns-clause-adds : goal.returns-clause-adds
returns-clause-adds g c = adds_settled g.E.Engine.answer_of g.E.Engine.problems_of _ _ _ _ _ c.requires.right c.settle.ensures
