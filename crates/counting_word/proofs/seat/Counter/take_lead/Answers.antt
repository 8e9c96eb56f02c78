use Rattle.std.proofs.Common.{◌≡◌, ap, ◌∙◌, subst}
use Rattle.counting_word.specs.declared.view.View.{View}
use Rattle.counting_word.specs.Views.{loaded, joined}
use Rattle.counting_word.specs.Steps.{Learns}
use Rattle.counting_word.proofs.Leading.{takes_lead}
use Rattle.counting_word.proofs.seat.Counter.take_lead.Goals as goal

pub returns : goal.returns
returns g c =
    let scribe : c.replace-leader.result ≡ c.args.scribe.now = c.replace-leader.ensures.value in
    let seat : c.note-note.new.seat ≡ c.args.seat.now = c.note-note.ensures.same in
    let both : c.join.new.seat ≡ joined c.args.seat.now c.args.scribe.now = c.join.ensures ∙ (λ i. joined (seat i) (scribe i)) in
    takes_lead c.args.seat.now c.args.scribe.now c.glance.new.seat c.glance.result c.requires.scribe c.requires.seat
    (c.glance.ensures.view ∙ ap (λ (v : View). loaded v c.glance.result) both)
    (subst (λ (v : View). Learns v c.glance.result) both c.glance.ensures.learns)
