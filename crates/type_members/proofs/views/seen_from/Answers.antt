use Rattle.std.proofs.Common.{◌≡◌, MatchResult, subst}
use Rattle.item_questions.specs.Questions.{Known, run}
use Rattle.item_answers.specs.Asking.{infos, Stops}
use Rattle.base_classes.specs.BaseTypes.{base_type}
use Rattle.type_members.specs.Members.{seen_as, with_arguments}
use Rattle.type_members.proofs.Asked.{halts, goes_on}
use Rattle.type_members.proofs.views.seen_from.Goals as goal

pub returns-in_err-base : goal.returns-in_err-base
returns-in_err-base g c =
    halts (infos (g.I.Infos.known c.args.infos.now)) (base_type c.args.ty.now c.args.class.now) (seen_as c.args.class.now) c.in_err-base.field-0.0 c.from_residual.result _
    c.in_err-base.ensures c.from_residual.ensures.1

pub returns : goal.returns
returns g c =
    goes_on (infos (g.I.Infos.known c.args.infos.now)) (base_type c.args.ty.now c.args.class.now) (seen_as c.args.class.now) c.in_ok-base.base c.with_arguments.result
    c.in_ok-base.ensures (subst (λ args. MatchResult c.with_arguments.result (λ view. run (infos (g.I.Infos.known c.args.infos.now)) (with_arguments c.args.class.now args) ≡ Known view) (λ why. Stops why (run (infos (g.I.Infos.known c.args.infos.now)) (with_arguments c.args.class.now args)))) c.args_at.ensures c.with_arguments.ensures)
