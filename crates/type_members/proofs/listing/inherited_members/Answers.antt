use Rattle.std.proofs.Common.{map, sym, ap, ◌∙◌}
use Rattle.item_questions.specs.Questions.{Gives, Known}
use Rattle.item_answers.specs.Asking.{infos}
use Rattle.item_answers.proofs.Binding.{bind-known}
use Rattle.type_members.specs.Members.{declared, inherited_from, all_offered, kept}
use Rattle.type_members.proofs.Asked.{halts-at, known-at}
use Rattle.type_members.proofs.listing.inherited_members.Goals as goal

pub returns-in_err-later : goal.returns-in_err-later
returns-in_err-later g c =
    halts-at (infos (g.I.Infos.known c.args.infos.now)) (all_offered c.args.ty.now) c.as_slice.result.now (map (inherited_from (declared (g.W.Owned.owned_by c.args.table.now) (g.W.Owned.flags_of c.args.table.now))) c.args.others.now)
    (λ later. Gives (kept (declared (g.W.Owned.owned_by c.args.table.now) (g.W.Owned.flags_of c.args.table.now)) c.args.own later)) c.in_err-later.field-0.0 c.from_residual-in_err-later.result _
    (c.as_slice.ensures ∙ c.in_ok-offers.ensures) c.in_err-later.ensures c.from_residual-in_err-later.ensures.1

pub returns : goal.returns
returns g c =
    bind-known (infos (g.I.Infos.known c.args.infos.now)) (all_offered c.args.ty.now (map (inherited_from (declared (g.W.Owned.owned_by c.args.table.now) (g.W.Owned.flags_of c.args.table.now))) c.args.others.now)) (λ later. Gives (kept (declared (g.W.Owned.owned_by c.args.table.now) (g.W.Owned.flags_of c.args.table.now)) c.args.own later)) c.in_ok-later.later
    (known-at (infos (g.I.Infos.known c.args.infos.now)) (all_offered c.args.ty.now) c.as_slice.result.now (map (inherited_from (declared (g.W.Owned.owned_by c.args.table.now) (g.W.Owned.flags_of c.args.table.now))) c.args.others.now) c.in_ok-later.later
    (c.as_slice.ensures ∙ c.in_ok-offers.ensures) c.in_ok-later.ensures)
    ∙ ap Known (sym c.in_ok-kept.ensures)
