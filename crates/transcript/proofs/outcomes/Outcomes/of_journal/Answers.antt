use Rattle.std.proofs.Common.{◌≡◌, ◌+◌, ◌++◌, ◌∷◌, [], length, take, sym, ap, ◌∙◌, subst, arith}
use Rattle.std.proofs.lemmas.List.{take_more, length-take-le}
use Rattle.transcript.specs.Outcomes.{IsTableOf}
use Rattle.transcript.proofs.outcomes.Outcomes.of_journal.Goals as goal

pub loop-index-preserved : goal.loop-index-preserved
loop-index-preserved c =
    let events = c.args.events.now in
    let index = c.loop-index.index in
    let event = c.index-events-index.result in
    let counted : index ≡ length (take index events) = sym (length-take-le index events (omega arith)) in
    let more : take (index + 1) events ≡ take index events ++ event ∷ [] =
    take_more events index event c.loop-index-test.true ∙ ap (λ e. take index events ++ e ∷ []) (sym c.index-events-index.is) in
    subst (λ es. IsTableOf es c.note.new.self) (sym more) (c.in_ok-note.ensures (take index events) counted c.loop-index.invariant)
