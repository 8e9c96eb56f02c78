use Rattle.std.proofs.Common.{◌∙◌, ap, is_some}
use Rattle.counting_word.specs.declared.view.View.{View}
use Rattle.counting_word.specs.History.{has}
use Rattle.desk_checks.proofs.Keeping.{taker_kept}
use Rattle.desk_checks.proofs.waiting.Waiting.meet.Goals as goal

pub invariant_of-self : goal.invariant_of-self
invariant_of-self g c =
    let old : View = c.args.self.now.pass in
    let new : View = c.meet.new.one in
    let grows = c.meet.ensures.first in
    record {
      named = ap (λ n. is_some n.number) grows.name ∙ c.args.self.now.named;
      mine = taker_kept old.seen new.seen c.args.self.now.ticket.ticket old.name.number new.name.number grows.begins c.args.self.now.named c.args.self.now.mine
          (ap (λ n. n.number) grows.name);
      fresh = ap (λ n. has n.got c.args.self.now.ticket.ticket) grows.name ∙ c.args.self.now.fresh;
    }
