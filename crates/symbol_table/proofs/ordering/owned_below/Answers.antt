use Rattle.std.proofs.Common.{nat_lt, rules}
use Rattle.std.proofs.lemmas.List.Sorted.{IsPartitionPoint-from_clause}
use Rattle.symbol_table.specs.Found.{owner_rank}
use Rattle.symbol_table.proofs.Ranked.{parted}
use Rattle.symbol_table.proofs.ordering.owned_below.Goals as goal

pub returns-clause-below : goal.returns-clause-below
returns-clause-below c =
    IsPartitionPoint-from_clause (λ d. nat_lt (owner_rank d.owner) c.args.rank) _ _ c.partition_point.ensures.partitioned
    (parted c.args.found.now c.args.rank c.requires) (λ a r q k. search rules)
