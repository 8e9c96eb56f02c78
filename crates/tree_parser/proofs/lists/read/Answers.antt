use Rattle.std.proofs.Common.{◌≡◌, None, ap, sym, ◌∙◌, subst}
use Rattle.std.specs.List.{All}
use Rattle.std.proofs.lemmas.List.Elements.{All-tail}
use Rattle.reading_machines.specs.Machines.{run, onward}
use Rattle.template_steps.specs.Pieces.{IsPieceOf, parts_in}
use Rattle.template_steps.specs.Statements.{stepped}
use Rattle.tree_parser.proofs.lists.read.Goals as goal

pub pieces-preserved : goal.pieces-preserved
pieces-preserved c =
    let text = c.args.text.now in
    let kind = c.args.kind in (
      All-tail (IsPieceOf text) c.in-Some.piece c.pop.new.self (subst (All (IsPieceOf text)) c.in-Some.ensures c.pieces.invariant.0),
      sym (ap (λ l. run (stepped kind) (parts_in text l) c.pieces.statement) c.in-Some.ensures
          ∙ ap (λ o. onward o None (run (stepped kind) (parts_in text c.pop.new.self))) (sym c.in_ok-next.ensures ∙ c.in-Some-2.is))
          ∙ c.pieces.invariant.1,
    )
