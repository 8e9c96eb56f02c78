use Rattle.script_text.proofs.AboveLemmas.{is_above-push}
use Rattle.script_text.proofs.above.Above.note.Goals as goal

pub returns-clause-above : goal.returns-clause-above
returns-clause-above c =
    is_above-push c.args.kind c.args.self.now _ c.args.line c.requires.above c.requires.stands
    (rw c.in_ok-note_order.ensures.lines at c.in_ok-push.ensures.ok)
    (rw (c.in_ok-note_order.ensures.levels, c.holder_of-holder.ensures) at c.in_ok-put_open.ensures)
    c.in_ok-note_order.ensures.calls
    c.in_ok-note_order.ensures.cancelled
