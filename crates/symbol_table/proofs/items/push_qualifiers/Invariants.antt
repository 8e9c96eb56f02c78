use Rattle.std.proofs.Common.{◌≡◌, ◌++◌, map, take}
use Rattle.pc_terms.specs.declared.items.Item.TheVariants as item
use Rattle.symbol_table.proofs.items.push_qualifiers.Given as goal

-- the clauses so far are added
abbrev pub invariant-loop-clause : goal.invariant-loop-clause
invariant-loop-clause l = l.items ≡ l.initial.items ++ map (λ clause. item.Qualifier l.name clause.span.start) (take l.clause-index l.clause-items)
