use Rattle.std.proofs.Common.{rules, ◌≡◌, ◌+◌, sym, ◌∙◌, arith}
use Rattle.response_cell.proofs.Covered.{covered-filled}
use Rattle.response_cell.proofs.cells.Cells.cover.Goals as goal

pub returns-in_ok-resize_with-clause-ok : goal.returns-in_ok-resize_with-clause-ok
returns-in_ok-resize_with-clause-ok c =
    let next : c.in_ok-count.count ≡ c.args.ticket + 1 = search rules in
    rw (← c.self.view_is) (covered-filled _ (λ p x q called. search rules) c.self.inside.cells.items c.resize_with.new.self.items c.in_ok-count.count c.args.ticket _
    next
    (omega (arith, c.if-len-count.true, c.len.ensures, c.self.inside.cells.ok.0))
    (sym c.resize_with.new.self.ok.0 ∙ c.in_ok-resize_with.ensures.len)
    c.in_ok-resize_with.ensures.items)
