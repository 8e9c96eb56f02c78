use Rattle.std.proofs.Common.{◌∙◌, ◌++◌, ◌∷◌, [], sym, ap, take}
use Rattle.std.proofs.lemmas.List.{take_more}
use Rattle.work_queue.specs.Reloads.{longest, longer}
use Rattle.work_queue.proofs.Usages.{longest-push}
use Rattle.work_queue.proofs.tally.longest_among.Goals as goal

pub loop-pair-preserved : goal.loop-pair-preserved
loop-pair-preserved c =
    let pairs = c.args.pairs.now in
    let pair = c.pair-item.result in
    let name = c.args.name.now in
    let more = take_more pairs c.loop-pair.pair-index pair c.loop-pair-test.true ∙ ap (λ e. take c.loop-pair.pair-index pairs ++ e ∷ []) (sym c.pair-item.is) in
    c.longer-most.ensures ∙ (λ j. longer (c.loop-pair.invariant j) (c.length_for.ensures j))
    ∙ sym (longest-push (take c.loop-pair.pair-index pairs) pair name) ∙ ap (λ es. longest es name) (sym more)
