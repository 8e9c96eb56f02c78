use Rattle.std.proofs.Common.{sym, ◌∙◌}
use Rattle.item_answers.specs.Asking.{infos}
use Rattle.base_classes.proofs.Following.{searched-found, search-handed}
use Rattle.base_classes.proofs.searching.search_at.Goals as goal

pub returns-then-is_same : goal.returns-then-is_same
returns-then-is_same g c = λ n.
    searched-found (infos (g.I.Infos.known c.args.infos.now)) n c.args.class.now c.args.ty c.args.todo.now c.args.seen.now.keys c.args.own c.requires (sym c.is_same.ensures ∙ c.if-is_same.true)

pub returns-in_err-follow : goal.returns-in_err-follow
returns-in_err-follow g c =
    search-handed (infos (g.I.Infos.known c.args.infos.now)) c.args.ty c.args.todo.now c.args.seen.now.keys c.args.class.now c.in_err-follow.field-0.0 c.from_residual.result _
    (λ n. c.in_err-follow.ensures n c.args.class.now (sym c.is_same.ensures ∙ c.if-is_same.false)) c.from_residual.ensures.1

pub returns : goal.returns
returns g c = λ n. c.in_ok-follow.ensures n c.args.class.now (sym c.is_same.ensures ∙ c.if-is_same.false)
