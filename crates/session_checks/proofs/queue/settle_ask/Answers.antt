use Rattle.std.proofs.Common.{◌≡◌, true, sym, subst, arith}
use Rattle.ask_history.specs.Journal.{is_settled}
use Rattle.ask_history.proofs.Orders.{is_open-from, is_next-from}
use Rattle.session_checks.proofs.queue.settle_ask.Goals as goal

pub settle-effect-requires-clause-unanswered : goal.settle-effect-requires-clause-unanswered
settle-effect-requires-clause-unanswered c =
    is_open-from c.args.queue.now.journal 1 c.requires.legal (omega (arith, c.requires.count)) c.requires.unsettled

pub settle-effect-requires-clause-next : goal.settle-effect-requires-clause-next
settle-effect-requires-clause-next c =
    is_next-from c.args.queue.now.journal 1
    (λ k h.
    let none : k ≡ 0 = omega arith in
    subst (λ n. is_settled c.args.queue.now.journal n ≡ true) (sym none) c.requires.settled)
