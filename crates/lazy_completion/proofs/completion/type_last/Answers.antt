use Rattle.std.proofs.Common.{ap, sym, ◌∙◌}
use Rattle.lazy_completion.specs.Memo.{value}
use Rattle.lazy_completion.specs.Typing.{asked, answer}
use Rattle.lazy_completion.proofs.Memos.{last_there, no_last, last_is, if_ok}
use Rattle.lazy_completion.proofs.completion.type_last.Goals as goal

pub type_item-requires : goal.type_item-requires
type_item-requires g c = c.requires.under_way.listed _ (last_there _ _ (sym c.in-Some.ensures) c.requires.locked)

pub unreachable-requires : goal.unreachable-requires
unreachable-requires g c = no_last _ c.requires.locked (sym c.in-None.ensures)

pub returns : goal.returns
returns g c =
    if_ok c.type_item.result
    (λ found is others last split. is ∙ ap (λ k. asked (answer (g.T.TypesItems.items c.args.typer.now) (g.T.TypesItems.typing c.args.typer.now) (value c.args.memo.now) k))
    (last_is _ others _ last (sym c.in-Some.ensures) split))
    c.type_item.ensures
