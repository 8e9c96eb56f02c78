use Rattle.engine_driver.proofs.Later.{drives_later, accepted_further}
use Rattle.engine_driver.proofs.Additions.{adds_later, adds_behind}
use Rattle.engine_driver.proofs.Feeding.{waits_open, drives_passed}
use Rattle.engine_driver.proofs.driver.Driver.take_next.Goals as goal

pub feed-requires-clause-drives : goal.feed-requires-clause-drives
feed-requires-clause-drives g c = drives_later _ _ _ _ _ c.posted.ensures.later c.requires.drives

pub settle_unfed-requires-clause-unanswered : goal.settle_unfed-requires-clause-unanswered
settle_unfed-requires-clause-unanswered g c = (waits_open _ _ _ _ (drives_later _ _ _ _ _ c.posted.ensures.later c.requires.drives) (accepted_further _ _ c.posted.ensures.later _ c.requires.there) c.in-NoMemory.ensures.finds).unanswered

pub settle_unfed-requires-clause-next : goal.settle_unfed-requires-clause-next
settle_unfed-requires-clause-next g c = (waits_open _ _ _ _ (drives_later _ _ _ _ _ c.posted.ensures.later c.requires.drives) (accepted_further _ _ c.posted.ensures.later _ c.requires.there) c.in-NoMemory.ensures.finds).next

pub returns-in-Call-clause-adds : goal.returns-in-Call-clause-adds
returns-in-Call-clause-adds g c = adds_behind g.E.Engine.answer_of g.E.Engine.problems_of _ _ _ _ c.posted.ensures.later c.feed.ensures.adds

pub returns-in-NoMemory-clause-drives : goal.returns-in-NoMemory-clause-drives
returns-in-NoMemory-clause-drives g c = c.settle_unfed.ensures.drives _ (drives_later _ _ _ _ _ c.posted.ensures.later c.requires.drives)

pub returns-in-NoMemory-clause-adds : goal.returns-in-NoMemory-clause-adds
returns-in-NoMemory-clause-adds g c = adds_behind g.E.Engine.answer_of g.E.Engine.problems_of _ _ _ _ c.posted.ensures.later c.settle_unfed.ensures.adds

pub returns-in-Settled-clause-drives : goal.returns-in-Settled-clause-drives
returns-in-Settled-clause-drives g c =
    drives_passed _ _ _ _ (drives_later _ _ _ _ _ c.posted.ensures.later c.requires.drives) (accepted_further _ _ c.posted.ensures.later _ c.requires.there) c.in-Settled.ensures.finds

pub returns-in-Settled-clause-adds : goal.returns-in-Settled-clause-adds
returns-in-Settled-clause-adds g c = adds_later g.E.Engine.answer_of g.E.Engine.problems_of _ _ c.posted.ensures.later
