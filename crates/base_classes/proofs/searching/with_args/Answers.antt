use Rattle.std.proofs.Common.{sym, ap, ◌∙◌, map, true≢false}
use Rattle.item_questions.specs.Questions.{Known}
use Rattle.type_substitution.specs.Substitution.{substituted}
use Rattle.item_answers.specs.Asking.{infos}
use Rattle.base_classes.specs.BaseTypes.{paths_of}
use Rattle.base_classes.proofs.Following.{with_args-none, args-halt, with_args-all}
use Rattle.base_classes.proofs.searching.with_args.Goals as goal

pub returns-then-is_empty : goal.returns-then-is_empty
returns-then-is_empty g c = with_args-none (infos (g.I.Infos.known c.args.infos.now)) c.args.class.now c.args.args.now c.args.types (c.is_empty.ensures.0 c.if-is_empty.true)

pub returns-in_err-signature : goal.returns-in_err-signature
returns-in_err-signature g c =
    args-halt (infos (g.I.Infos.known c.args.infos.now)) c.args.class.now c.args.args.now c.args.types c.in_err-signature.field-0.0 c.from_residual.result _
    (λ e. true≢false (sym (c.is_empty.ensures.1 e) ∙ c.if-is_empty.false)) c.in_err-signature.ensures c.from_residual.ensures.1

pub returns : goal.returns
returns g c =
    with_args-all (infos (g.I.Infos.known c.args.infos.now)) c.args.class.now c.args.args.now c.args.types c.in_ok-signature.signature.now
    (λ e. true≢false (sym (c.is_empty.ensures.1 e) ∙ c.if-is_empty.false)) c.in_ok-signature.ensures
    ∙ ap Known (sym (c.in_ok-subst_all.ensures
    ∙ ap (λ ps. map (substituted ps c.args.args.now) c.args.types) (c.in_ok-params.ensures ∙ ap paths_of c.as_slice.ensures)))
