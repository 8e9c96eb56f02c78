use Rattle.std.proofs.Common.{◌≡◌, ◌∙◌, ℕ, ◌<◌, ◌++◌, ◌-◌, length, length-append, take, drop, arith, List, true, sym, ap, subst}
use Rattle.std.proofs.lemmas.List.{take_all}
use Rattle.std.proofs.Math.Seq.{drop-append_seam}
use Rattle.ask_history.specs.Journal.{accepted, is_settled}
use Rattle.ask_history.specs.declared.events.Event.{Event}
use Rattle.work_queue.specs.Indexes.{close_index}
use Rattle.work_queue.specs.Queue.{QueueState}
use Rattle.counting_word.specs.declared.view.View.{View}
use Rattle.counting_word.specs.History.{journal_of}
use Rattle.ask_desk.specs.Answers.{closing}
use Rattle.ask_desk.proofs.Passing.{written-journal}
use Rattle.ask_desk.proofs.Shutdown.{after_close-closing, desk_told}
use Rattle.ask_desk.proofs.books.Books.close.Given
use Rattle.ask_desk.proofs.books.Books.close.Goals as goal
use Rattle.ask_desk.proofs.books.Books.close.Goals.{After-write_shutdown}

same : (g : Given.Over) (c : After-write_shutdown g) → journal_of c.write_shutdown.new.seat.seen ≡ c.close-index.new.self.journal
same g c =
    let seat : View = c.args.seat.now in
    let queue : QueueState = c.args.self.now.queue in
    let told : journal_of seat.seen ≡ queue.journal = c.requires.desk.journal in
    let after : c.close-index.new.self.journal ≡ queue.journal ++ closing queue.journal =
    ap (λ (q : QueueState). q.journal) c.close-index.ensures.queue ∙ after_close-closing queue.journal in
    let journal : List Event = c.journal.result.now in
    let count : ℕ = length c.journal-count.result.now in
    let whole : journal ≡ queue.journal ++ closing queue.journal = c.journal.ensures.journal ∙ after in
    let counted : count ≡ length queue.journal = ap length c.journal-count.ensures.journal in
    let rest : drop count journal ≡ closing queue.journal =
    ap (λ n. drop n journal) counted ∙ ap (drop (length queue.journal)) whole ∙ drop-append_seam queue.journal (closing queue.journal) in
    let events : take (length journal - count) (drop count journal) ≡ closing queue.journal =
    ap (take (length journal - count)) rest
    ∙ take_all (length journal - count) (closing queue.journal) (omega (arith, counted, ap length whole, length-append queue.journal (closing queue.journal))) in
    ap (λ (v : View). journal_of v.seen) c.write_shutdown.ensures.seat ∙ written-journal seat (take (length journal - count) (drop count journal))
    ∙ ap (λ es. journal_of seat.seen ++ es) events ∙ ap (λ js. js ++ closing queue.journal) told ∙ sym after

pub returns-clause-desk : goal.returns-clause-desk
returns-clause-desk g c =
    let seat : View = c.write_shutdown.new.seat in
    desk_told c.close-index.new.self c.write_shutdown.new.cells seat.seen seat.name.given g.B.Room.limits (same g c)
    (ap (λ (q : QueueState). q.limits) c.close-index.ensures.queue ∙ c.requires.desk.carried) c.write_shutdown.ensures.desk

pub returns-clause-index : goal.returns-clause-index
returns-clause-index g c = ap close_index (same g c) ∙ c.close-index.ensures.index

pub returns-clause-settled : goal.returns-clause-settled
returns-clause-settled g c =
    subst (λ (js : List Event). (ticket : ℕ) → ticket < accepted js → is_settled js ticket ≡ true) (sym (same g c)) c.close-index.ensures.settled
