use Rattle.std.proofs.Common.{sym, ◌∙◌}
use Rattle.item_answers.specs.Asking.{infos}
use Rattle.base_classes.proofs.Following.{searched-other}
use Rattle.base_classes.proofs.searching.search_one.Goals as goal

pub returns-in-None : goal.returns-in-None
returns-in-None g c = λ n.
    searched-other (infos (g.I.Infos.known c.args.infos.now)) n c.args.class.now c.args.ty c.args.todo.now c.args.seen.now.keys (sym c.in_ok-found.ensures ∙ c.in-None.is)
