use Rattle.lazy_completion.proofs.Steps.{right-same, keeps-same, keeps-trans}
use Rattle.lazy_completion.proofs.completion.complete.Goals as goal

pub returns-in-Err-clause-right : goal.returns-in-Err-clause-right
returns-in-Err-clause-right g c =
    right-same (g.T.TypesItems.items c.args.typer.now) (g.T.TypesItems.typing c.args.typer.now) c.settle_from.new.memo c.unlock_all.new.self c.unlock_all.ensures.values
    c.settle_from.ensures.right

pub returns-in-Err-clause-kept : goal.returns-in-Err-clause-kept
returns-in-Err-clause-kept g c =
    keeps-trans c.args.memo.now c.settle_from.new.memo c.unlock_all.new.self c.settle_from.ensures.kept
    (keeps-same (g.T.TypesItems.items c.args.typer.now) (g.T.TypesItems.typing c.args.typer.now) c.settle_from.new.memo c.unlock_all.new.self c.unlock_all.ensures.values)
