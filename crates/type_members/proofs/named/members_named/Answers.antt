use Rattle.std.proofs.Common.{filter, ap, ◌∙◌}
use Rattle.item_answers.specs.Asking.{infos}
use Rattle.class_parents.specs.Linearisation.{linearisation}
use Rattle.type_members.specs.Members.{declared}
use Rattle.type_members.specs.Named.{is_offer, named_offers, chosen, chosen_of}
use Rattle.type_members.proofs.Asked.{halts, goes_on, tells-at}
use Rattle.type_members.proofs.named.members_named.Goals as goal

pub returns-in_err-classes : goal.returns-in_err-classes
returns-in_err-classes g c =
    halts (infos (g.I.Infos.known c.args.infos.now)) (linearisation c.args.class.now) (chosen_of (declared (g.W.Owned.owned_by c.args.table.now) (g.W.Owned.flags_of c.args.table.now)) c.args.class.now c.args.name.now c.args.space)
    c.in_err-classes.field-0.0 c.from_residual.result _ c.in_err-classes.ensures c.from_residual.ensures.1

pub returns : goal.returns
returns g c =
    goes_on (infos (g.I.Infos.known c.args.infos.now)) (linearisation c.args.class.now) (chosen_of (declared (g.W.Owned.owned_by c.args.table.now) (g.W.Owned.flags_of c.args.table.now)) c.args.class.now c.args.name.now c.args.space) c.in_ok-classes.classes c.chosen.result c.in_ok-classes.ensures
    (tells-at (infos (g.I.Infos.known c.args.infos.now)) (chosen (declared (g.W.Owned.owned_by c.args.table.now) (g.W.Owned.flags_of c.args.table.now)) c.args.class.now) c.as_slice-2.result.now (filter is_offer (named_offers (declared (g.W.Owned.owned_by c.args.table.now) (g.W.Owned.flags_of c.args.table.now)) c.args.name.now c.args.space c.in_ok-classes.classes)) c.chosen.result
    (c.as_slice-2.ensures ∙ c.in_ok-offers.ensures ∙ ap (λ classes. filter is_offer (named_offers (declared (g.W.Owned.owned_by c.args.table.now) (g.W.Owned.flags_of c.args.table.now)) c.args.name.now c.args.space classes)) c.as_slice.ensures)
    c.chosen.ensures)
