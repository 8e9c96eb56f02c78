use Rattle.std.proofs.Common.{◌≡◌, Some, length, if◌then◌else◌}
use Rattle.pc_terms.specs.declared.items.Item.{Item}
use Rattle.pc_terms.specs.declared.items.ItemValue.TheVariants as given
use Rattle.lazy_completion.specs.Memo.{value, locked, is_locked}
use Rattle.lazy_completion.proofs.memo.Memo.settle_cyclic.Given as goal

-- what is settled so far, with what is still locked, comes to all that were locked
abbrev pub invariant-loop-self : goal.invariant-loop-self
invariant-loop-self l =
    (k : Item) → (if is_locked l.self k then Some given.Cyclic else value l.self k) ≡ (if is_locked l.fn.self k then Some given.Cyclic else value l.fn.self k)

abbrev pub decreases-loop-self : goal.decreases-loop-self
decreases-loop-self l = length (locked l.self)
