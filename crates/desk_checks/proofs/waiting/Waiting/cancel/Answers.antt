use Rattle.std.proofs.Common.{◌∙◌, ap, is_some}
use Rattle.counting_word.specs.declared.view.View.{View}
use Rattle.counting_word.specs.History.{has}
use Rattle.desk_checks.proofs.Keeping.{taker_kept}
use Rattle.desk_checks.proofs.waiting.Waiting.cancel.Goals as goal

pub invariant_of-self : goal.invariant_of-self
invariant_of-self g c =
    let old : View = c.args.self.now.pass in
    let new : View = c.cancel.new.pass in
    let w = c.cancel.ensures.writes in
    record {
      named = ap is_some w.moves.number ∙ c.args.self.now.named;
      mine = taker_kept old.seen new.seen c.args.self.now.ticket.ticket old.name.number new.name.number w.moves.begins c.args.self.now.named c.args.self.now.mine w.moves.number;
      fresh = ap (λ ts. has ts c.args.self.now.ticket.ticket) w.got ∙ c.args.self.now.fresh;
    }
