use Rattle.std.proofs.Common.{length, refl, rules}
use Rattle.std.proofs.lemmas.Result.{on_ok_weaker}
use Rattle.transcript.proofs.Tables.{table-accept, table-cancel, table-settle, table-close, table-checked, none-closed, some-closed}
use Rattle.transcript.proofs.outcomes.Outcomes.note.Goals as goal

pub returns-in-Accept : goal.returns-in-Accept
returns-in-Accept c = on_ok_weaker c.note_ticket.result
    (λ new journal at h. rw c.in-Accept.is
    (table-accept journal c.args.self.now _ h c.in-Accept.ticket c.in-Accept.client c.in-Accept.tag c.in-Accept.call new refl refl refl))
    c.note_ticket.ensures

pub returns-in-Cancel : goal.returns-in-Cancel
returns-in-Cancel c = on_ok_weaker c.note_index.result
    (λ new journal at h. rw (c.in-Cancel.is) (table-cancel journal c.args.self.now _ h c.in-Cancel.ticket c.args.index at refl new refl refl))
    c.note_index.ensures

pub returns-in-Settle : goal.returns-in-Settle
returns-in-Settle c = on_ok_weaker c.note_index-in-Settle.result
    (λ new journal at h. rw (c.in-Settle.is) (table-settle journal c.args.self.now _ h c.in-Settle.ticket c.args.index c.in-Settle.mark at refl refl new refl))
    c.note_index-in-Settle.ensures

pub returns-then-is_none : goal.returns-then-is_none
returns-then-is_none c = λ journal at h.
    rw c.in-Close.is (table-close journal c.args.self.now _ h refl refl refl (none-closed c.args.self.now.closed c.args.index (length journal) (search rules) at))

pub returns-else-is_none : goal.returns-else-is_none
returns-else-is_none c = λ journal at h.
    rw c.in-Close.is (table-close journal c.args.self.now c.args.self.now h refl refl refl (some-closed c.args.self.now.closed (length journal) (search rules)))

pub returns-in-Checked : goal.returns-in-Checked
returns-in-Checked c = λ journal at h. rw c.in-Checked.is (table-checked journal c.args.self.now c.args.self.now h c.in-Checked.file refl refl refl refl)
