use Rattle.std.proofs.Common.{◌≡◌, ℕ, ◌∙◌, ap, sym, subst, refl, List, [], ◌∷◌}
use Rattle.response_cell.specs.declared.cells.Cell.{Cell}
use Rattle.counting_word.specs.declared.view.View.{View}
use Rattle.counting_word.specs.History.{journal_of, taker_of, has}
use Rattle.ask_history.specs.Journal.{is_settled}
use Rattle.ask_desk.specs.Locked.{IsDesk}
use Rattle.ask_desk.specs.Passes.{Writes}
use Rattle.ask_desk.proofs.Desks.{desk-take, settled_there, unsettled_there, taken_none}
use Rattle.ask_desk.proofs.Passing.{taker_led, desk_led, desk_given, writes_none, ungiven_led}
use Rattle.ask_desk.proofs.locked.Locked.try_receive.Goals as goal

pub hand-requires-clause-taken : goal.hand-requires-clause-taken
hand-requires-clause-taken g c =
    let is = c.pass.view_is in
    let t : ℕ = c.args.ticket.ticket in
    let n : ℕ = c.pass.inside.number in
    let named = c.pass.invariant.named in
    taker_led c.pass.inside.seat c.self.inside.scribe c.take_lead.new.seat t n c.take_lead.ensures
    (ap (λ (v : View). taker_of v.seen t) is ∙ c.requires.mine ∙ ap (λ (v : View). v.name.number) (sym is) ∙ named)
    ∙ sym (ap (λ (v : View). v.name.number) c.take_lead.ensures.view ∙ named)

pub invariant_of-self : goal.invariant_of-self
invariant_of-self g c =
    let queue = c.self.inside.books.queue in
    let cells : List Cell = c.self.inside.books.cells in
    let led : View = c.take_lead.new.seat in
    let t : ℕ = c.args.ticket.ticket in
    let desk : IsDesk queue cells led.seen led.name.given g.B.Room.limits =
    desk_led queue cells g.B.Room.limits c.pass.inside.seat c.self.inside.scribe led c.take_lead.ensures c.self.invariant.1 in
    let there = settled_there queue cells led.seen led.name.given g.B.Room.limits desk t c.in-Some.answer (sym c.take.ensures.answer ∙ c.in-Some.is) in
    let after : IsDesk queue c.take.new.self led.seen (t ∷ led.name.given) g.B.Room.limits =
    subst (λ (cs : List Cell). IsDesk queue cs led.seen (t ∷ led.name.given) g.B.Room.limits) (sym c.take.ensures.cells)
    (desk-take queue cells led.seen led.name.given g.B.Room.limits desk t there.0) in
    desk_given queue c.take.new.self g.B.Room.limits c.hand.new.seat c.give_lead.new.seat c.give_lead.new.scribe c.give_lead.ensures
    (subst (λ (v : View). IsDesk queue c.take.new.self v.seen v.name.given g.B.Room.limits) (sym c.hand.ensures.view) after)

pub invariant_of-self-in-None : goal.invariant_of-self-in-None
invariant_of-self-in-None g c =
    let queue = c.self.inside.books.queue in
    let cells : List Cell = c.self.inside.books.cells in
    let led : View = c.take_lead.new.seat in
    let t : ℕ = c.args.ticket.ticket in
    let desk : IsDesk queue cells led.seen led.name.given g.B.Room.limits =
    desk_led queue cells g.B.Room.limits c.pass.inside.seat c.self.inside.scribe led c.take_lead.ensures c.self.invariant.1 in
    let same = c.take.ensures.cells ∙ taken_none cells t (sym c.take.ensures.answer ∙ c.in-None.is) in
    desk_given queue c.take.new.self g.B.Room.limits led c.give_lead-in-None.new.seat c.give_lead-in-None.new.scribe c.give_lead-in-None.ensures
    (subst (λ (cs : List Cell). IsDesk queue cs led.seen led.name.given g.B.Room.limits) (sym same) desk)

pub returns-in-None : goal.returns-in-None
returns-in-None g c =
    let queue = c.self.inside.books.queue in
    let cells : List Cell = c.self.inside.books.cells in
    let old : View = c.pass.inside.seat in
    let scribe : View = c.self.inside.scribe in
    let led : View = c.take_lead.new.seat in
    let new : View = c.give_lead-in-None.new.seat in
    let t : ℕ = c.args.ticket.ticket in
    let is : old ≡ c.args.pass.now = c.pass.view_is in
    let desk : IsDesk queue cells led.seen led.name.given g.B.Room.limits =
    desk_led queue cells g.B.Room.limits old scribe led c.take_lead.ensures c.self.invariant.1 in
    let wrote = writes_none old scribe led new c.give_lead-in-None.new.scribe c.take_lead.ensures c.give_lead-in-None.ensures in
    let taker = ap (λ (v : View). taker_of v.seen t) is ∙ c.requires.mine ∙ ap (λ (v : View). v.name.number) (sym is) in
    let ungiven = ungiven_led old scribe led t c.take_lead.ensures c.pass.inside.number c.pass.invariant.named (taker ∙ c.pass.invariant.named)
    (ap (λ (v : View). has v.name.got t) is ∙ c.requires.first) in
    let unsettled = unsettled_there queue cells led.seen led.name.given g.B.Room.limits desk t ungiven (sym c.take.ensures.answer ∙ c.in-None.is) in
    let seen : new.seen ≡ led.seen = ap (λ (v : View). v.seen) c.give_lead-in-None.ensures.view in
    record {
      tries = (
        record {
          writes = subst (λ (v : View). Writes v new.seen [] new) is wrote;
          unsettled = ap (λ es. is_settled (journal_of es) t) seen ∙ unsettled;
          mine = ap (λ es. taker_of es t) seen
              ∙ taker_led old scribe led t c.pass.inside.number c.take_lead.ensures (taker ∙ c.pass.invariant.named)
              ∙ sym (wrote.moves.number ∙ c.pass.invariant.named);
        },
        refl,
      );
    }
