use Rattle.std.proofs.Common.{◌≡◌, ◌<◌, ◌+◌, ◌^◌, length, sym, ap, subst, ◌∙◌, arith, IsTrue, [], ◌∷◌, ◌++◌, Some}
use Rattle.std.specs.Prelude.{unwrap_or}
use Rattle.ask_history.specs.Legal.{is_legal}
use Rattle.counting_word.specs.History.{journal_of}
use Rattle.counting_word.specs.declared.view.Entry.{Entry}
use Rattle.counting_word.specs.declared.view.View.{View}
use Rattle.counting_word.proofs.Counting.{legal_more}
use Rattle.counting_word.proofs.Moves.{appends, number_of}
use Rattle.counting_word.proofs.seat.Counter.write.Goals as goal

pub fetch_add-requires : goal.fetch_add-requires
fetch_add-requires g c =
    let is = c.seat.view_is in
    let entry : Entry = g.W.Writing.entry in
    let n = number_of c.args.seat.now.name.number c.requires.named in
    let legal = legal_more c.args.seat.now.seen entry c.args.event.now c.requires.event c.requires.legal in (
      c.seat.invariant.0 ∙ sym c.args.self.now.named,
      omega (arith, c.args.self.now.one_word),
      appends _ _ _ entry
          (ap (λ (v : View). v.leads) is ∙ c.requires.leads)
          (ap (λ (v : View). v.name.number) is ∙ n.1 ∙ ap Some (sym (c.requires.author ∙ ap (λ o. unwrap_or o 0) n.1)))
          (subst (λ (v : View). length v.seen + 1 < 2 ^ 64) (sym is) c.requires.room)
          (subst (λ (v : View). IsTrue (is_legal (journal_of (v.seen ++ entry ∷ [])))) (sym is) legal),
    )
