use Rattle.std.proofs.Common.{None, Some, ap, sym, ◌∙◌}
use Rattle.std.specs.Option.{unwrap_or}
use Rattle.symbol_table.specs.Groups.{no_group}
use Rattle.symbol_table.proofs.Parts.{group-placed}
use Rattle.symbol_table.proofs.table.Table.group.Goals as goal

pub returns-in-Some : goal.returns-in-Some
returns-in-Some c =
    c.unwrap_or.ensures ∙ ap (λ o. unwrap_or o no_group) (c.copied.ensures ∙ c.get.ensures.value)
    ∙ group-placed c.args.self.now c.args.owner.now.steps (Some c.in-Some.place) c.if-is_empty.ensures.1 (sym c.get_index_of.ensures.index ∙ c.in-Some.is)

pub returns-in-None : goal.returns-in-None
returns-in-None c =
    group-placed c.args.self.now c.args.owner.now.steps None c.if-is_empty.ensures.1 (sym c.get_index_of.ensures.index ∙ c.in-None.is)
