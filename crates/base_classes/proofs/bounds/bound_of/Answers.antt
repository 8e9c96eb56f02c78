use Rattle.std.proofs.Common.{sym, ◌∙◌}
use Rattle.item_answers.specs.Asking.{infos}
use Rattle.base_classes.proofs.Following.{bounded-seen, bound-stops, bound-known}
use Rattle.base_classes.proofs.bounds.bound_of.Goals as goal

pub returns-then-contains : goal.returns-then-contains
returns-then-contains g c = λ n ty own.
    bounded-seen (infos (g.I.Infos.known c.args.infos.now)) n c.args.seen.now.keys ty c.args.path.now own (sym c.contains.ensures ∙ c.if-contains.true)

pub returns-in_err-signature : goal.returns-in_err-signature
returns-in_err-signature g c =
    bound-stops (infos (g.I.Infos.known c.args.infos.now)) c.args.seen.now.keys c.args.path.now c.in_err-signature.field-0.0 c.from_residual.result _
    (sym c.contains.ensures ∙ c.if-contains.false) c.in_err-signature.ensures c.from_residual.ensures.1

pub returns : goal.returns
returns g c =
    bound-known (infos (g.I.Infos.known c.args.infos.now)) c.args.seen.now.keys c.args.path.now c.in_ok-copy.copy c.in_ok-signature.signature.now c.in_ok-bound.bound c.insert.new.self.keys
    (sym c.contains.ensures ∙ c.if-contains.false) c.in_ok-signature.ensures c.in_ok-bound.ensures c.in_ok-copy.ensures c.in_ok-_is_new.ensures.keys
