use Rattle.std.proofs.Common.{◌+◌, subst}
use Rattle.symbol_table.specs.Found.{owner_rank}
use Rattle.symbol_table.specs.Order.{IsOwnedBelow}
use Rattle.symbol_table.proofs.Ranked.{group-part}
use Rattle.symbol_table.proofs.ordering.group_of.Goals as goal

pub returns : goal.returns
returns c =
    group-part c.args.found.now (owner_rank c.args.owner) c.owned_below.result c.owned_below-2.result c.owned_below.ensures.within c.owned_below-2.ensures.within
    (subst (λ rank. IsOwnedBelow c.args.found.now rank c.owned_below.result) c.owner_rank-rank.ensures c.owned_below.ensures.below)
    (subst (λ rank. IsOwnedBelow c.args.found.now (rank + 1) c.owned_below-2.result) c.owner_rank-rank.ensures c.owned_below-2.ensures.below)
