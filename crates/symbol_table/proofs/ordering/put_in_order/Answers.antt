use Rattle.std.proofs.Common.{◌≡◌, rules}
use Rattle.std.specs.Ordering.{is_lt}
use Rattle.std.proofs.lemmas.Fn.{always_returns_same}
use Rattle.symbol_table.specs.Order.{found_cmp}
use Rattle.symbol_table.proofs.Ranked.{found_ranks}
use Rattle.symbol_table.proofs.ordering.put_in_order.Goals as goal

pub returns-clause-sorted : goal.returns-clause-sorted
returns-clause-sorted c =
    c.sort_unstable_by.ensures.sorted (λ x y. is_lt (found_cmp x y)) found_ranks
    (always_returns_same _ (λ a r. is_lt r ≡ is_lt (found_cmp a.0.now a.1.0.now)) _ (λ a r q k. search rules))
