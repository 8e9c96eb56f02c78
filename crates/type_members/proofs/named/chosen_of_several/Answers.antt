use Rattle.std.proofs.Common.{[], sym, ap, ◌∙◌}
use Rattle.item_questions.specs.Questions.{Gives, Known}
use Rattle.item_answers.specs.Asking.{infos}
use Rattle.item_answers.proofs.Binding.{bind-known}
use Rattle.pc_terms.specs.declared.types.Ty.{Class}
use Rattle.type_members.specs.Members.{declared, all_offered, kept}
use Rattle.type_members.specs.Named.{paths_of}
use Rattle.type_members.proofs.Asked.{halts-at, known-at}
use Rattle.type_members.proofs.named.chosen_of_several.Goals as goal

pub returns-in_err-members : goal.returns-in_err-members
returns-in_err-members g c =
    halts-at (infos (g.I.Infos.known c.args.infos.now)) (λ ty. all_offered ty c.args.offers.now) (Class c.in_ok-own.own c.new.result) (Class c.args.class.now []) (λ members. Gives (paths_of (kept (declared (g.W.Owned.owned_by c.args.table.now) (g.W.Owned.flags_of c.args.table.now)) [] members)))
    c.in_err-members.field-0.0 c.from_residual-in_err-members.result _ (λ i. Class (c.in_ok-own.ensures i) (c.new.ensures i)) c.in_err-members.ensures c.from_residual-in_err-members.ensures.1

pub returns : goal.returns
returns g c =
    bind-known (infos (g.I.Infos.known c.args.infos.now)) (all_offered (Class c.args.class.now []) c.args.offers.now) (λ members. Gives (paths_of (kept (declared (g.W.Owned.owned_by c.args.table.now) (g.W.Owned.flags_of c.args.table.now)) [] members))) c.in_ok-members.members
    (known-at (infos (g.I.Infos.known c.args.infos.now)) (λ ty. all_offered ty c.args.offers.now) (Class c.in_ok-own.own c.new.result) (Class c.args.class.now []) c.in_ok-members.members
    (λ i. Class (c.in_ok-own.ensures i) (c.new.ensures i)) c.in_ok-members.ensures)
    ∙ ap Known (sym (c.in_ok-paths_of.ensures ∙ ap paths_of (c.in_ok-kept.ensures ∙ ap (λ own. kept (declared (g.W.Owned.owned_by c.args.table.now) (g.W.Owned.flags_of c.args.table.now)) own c.in_ok-members.members) c.new-2.ensures)))
