use Rattle.std.proofs.Common.{sym, ◌∙◌}
use Rattle.item_answers.specs.Asking.{infos}
use Rattle.base_classes.proofs.Following.{searched-seen, follow-stops, follow-known}
use Rattle.base_classes.proofs.searching.follow.Goals as goal

pub returns-then-contains : goal.returns-then-contains
returns-then-contains g c = λ n class apart.
    searched-seen (infos (g.I.Infos.known c.args.infos.now)) n class c.args.ty.now c.args.todo.now c.args.seen.now.keys c.args.own c.requires apart (sym c.contains.ensures ∙ c.if-contains.true)

pub returns-in_err-types : goal.returns-in_err-types
returns-in_err-types g c =
    follow-stops (infos (g.I.Infos.known c.args.infos.now)) c.args.ty.now c.args.todo.now c.args.seen.now.keys c.args.own c.in_err-types.field-0.0 c.from_residual.result _
    c.requires (sym c.contains.ensures ∙ c.if-contains.false) c.in_err-types.ensures c.from_residual.ensures.1

pub returns : goal.returns
returns g c =
    follow-known (infos (g.I.Infos.known c.args.infos.now)) c.args.ty.now c.args.todo.now c.args.seen.now.keys c.args.own c.in_ok-types.types c.push_types.new.todo c.insert.new.self.keys
    c.requires (sym c.contains.ensures ∙ c.if-contains.false) c.in_ok-types.ensures c.in_ok-push_types.ensures c.in_ok-_is_new.ensures.keys
