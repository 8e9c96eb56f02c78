use Rattle.std.proofs.Common.{sym, ◌∙◌}
use Rattle.item_answers.specs.Asking.{infos}
use Rattle.class_parents.proofs.Following.{reached-seen, reach-stops, reach-known}
use Rattle.class_parents.proofs.parents.reach_one.Goals as goal

pub returns-then-contains : goal.returns-then-contains
returns-then-contains g c = λ n.
    reached-seen (infos (g.I.Infos.known c.args.infos.now)) n c.args.class c.args.todo.now c.args.seen.now.keys (sym c.contains.ensures ∙ c.if-contains.true)

pub returns-in_err-types : goal.returns-in_err-types
returns-in_err-types g c =
    reach-stops (infos (g.I.Infos.known c.args.infos.now)) c.args.class c.args.todo.now c.args.seen.now.keys c.in_err-types.field-0.0 c.from_residual.result _
    (sym c.contains.ensures ∙ c.if-contains.false) c.in_err-types.ensures c.from_residual.ensures.1

pub returns : goal.returns
returns g c =
    reach-known (infos (g.I.Infos.known c.args.infos.now)) c.args.class c.args.todo.now c.args.seen.now.keys c.in_ok-types.types.now c.as_slice.result.now
    c.push_classes.new.todo c.insert.new.self.keys (sym c.contains.ensures ∙ c.if-contains.false) c.in_ok-types.ensures c.as_slice.ensures c.in_ok-push_classes.ensures
    c.in_ok-_is_new.ensures.keys
