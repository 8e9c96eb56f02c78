use Rattle.std.proofs.Common.{◌≡◌, ◌∙◌, Bool, true, false, not, sym, ap}
use Rattle.work_queue.proofs.Logs.{is_settled-read, is_open-listed}
use Rattle.work_queue.proofs.log.Log.is_open.Goals as goal

flipped : (b c : Bool) → b ≡ not c → c ≡ not b
flipped b true h = sym (ap not h)
flipped b false h = sym (ap not h)

pub returns-clause-unsettled : goal.returns-clause-unsettled
returns-clause-unsettled c =
    flipped _ _ (sym (is_settled-read c.self.inside c.self.invariant _ c.self.view_is c.args.ticket c.requires c.index.result.now c.index.ensures) ∙ c.is_none.ensures)

pub returns-clause-unanswered : goal.returns-clause-unanswered
returns-clause-unanswered c =
    returns-clause-unsettled c ∙ sym (is_open-listed c.self.inside c.self.invariant _ c.self.view_is c.args.ticket c.requires c.index.result.now c.index.ensures)
