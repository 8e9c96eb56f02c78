use Rattle.std.proofs.Common.{◌≡◌, ◌∙◌, ◌++◌, ◌∷◌, IsTrue, List, sym, subst}
use Rattle.ask_history.specs.Legal.{is_legal}
use Rattle.ask_history.specs.declared.events.Event.{Event}
use Rattle.counting_word.specs.declared.view.View.{View}
use Rattle.counting_word.specs.History.{journal_of}
use Rattle.ask_desk.specs.Locked.{IsDesk, told}
use Rattle.ask_desk.proofs.Shutdown.{closing_first, legal_first, shut_desk}
use Rattle.ask_desk.proofs.books.write_shutdown.Goals as goal

pub append-requires-clause-legal : goal.append-requires-clause-legal
append-requires-clause-legal g c =
    let split : c.args.events.now ≡ c.in-Some.close.now ∷ c.in-Some.settlings.now = c.in-Some.ensures.cases.0 in
    legal_first (journal_of c.args.seat.now.seen) c.in-Some.close.now c.in-Some.settlings.now
    (subst (λ (es : List Event). IsTrue (is_legal (journal_of c.args.seat.now.seen ++ es))) split c.requires.legal)

pub write_settlings-requires-clause-desk : goal.write_settlings-requires-clause-desk
write_settlings-requires-clause-desk g c =
    let split : c.args.events.now ≡ c.in-Some.close.now ∷ c.in-Some.settlings.now = c.in-Some.ensures.cases.0 in
    let seat : View = c.args.seat.now in
    subst (λ (v : View). IsDesk (told v.seen g.B.Room.limits) c.args.cells.now v.seen v.name.given g.B.Room.limits) (sym c.append.ensures)
    (shut_desk seat c.in-Some.close.now c.args.cells.now g.B.Room.limits
    (closing_first (journal_of seat.seen) c.in-Some.close.now c.in-Some.settlings.now (sym c.requires.events ∙ split)) c.requires.desk)
