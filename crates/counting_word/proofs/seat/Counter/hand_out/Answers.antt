use Rattle.std.proofs.Common.{◌≡◌, sym, ap, ◌∙◌, arith}
use Rattle.ask_history.specs.Journal.{is_settled}
use Rattle.counting_word.specs.History.{journal_of, taker_of}
use Rattle.counting_word.specs.declared.view.View.{View}
use Rattle.counting_word.proofs.Moves.{hands_out, number_of}
use Rattle.counting_word.proofs.seat.Counter.hand_out.Goals as goal

pub load-requires : goal.load-requires
load-requires g c =
    let is = c.seat.view_is in
    let ticket : g.T.Handing.ticket ≡ c.args.ticket = c.requires.ticket in
    let n = number_of c.args.seat.now.name.number c.requires.named in (
      c.seat.invariant.0 ∙ sym c.args.self.now.named,
      omega (arith, c.args.self.now.one_word),
      hands_out _ _ _ _ n.0
          (ap (λ (v : View). v.leads) is ∙ c.requires.leads)
          (ap (λ (v : View). v.name.number) is ∙ n.1)
          (ap (λ (v : View). taker_of v.seen g.T.Handing.ticket) is ∙ ap (taker_of c.args.seat.now.seen) ticket ∙ c.requires.taken ∙ n.1)
          (ap (λ (v : View). is_settled (journal_of v.seen) g.T.Handing.ticket) is ∙ ap (is_settled (journal_of c.args.seat.now.seen)) ticket ∙ c.requires.settled),
    )
