use Rattle.std.proofs.Common.{◌++◌, refl, sym, ap, subst, ◌∙◌}
use Rattle.std.specs.List.{flat_map}
use Rattle.std.proofs.lemmas.Result.{IfOk-weaker}
use Rattle.symbol_table.specs.declared.table.Beside.{Beside}
use Rattle.symbol_table.specs.Found.{found_items}
use Rattle.symbol_table.specs.Made.{HaveOwnPaths, IsMadeOf}
use Rattle.symbol_table.specs.Tables.{sources_of, IsTable}
use Rattle.symbol_table.proofs.AllTabled.{table_is}
use Rattle.symbol_table.proofs.Tabled.{own_paths}
use Rattle.symbol_table.proofs.entering.enter.Goals as goal

pub table_of-requires : goal.table_of-requires
table_of-requires c =
    let definitions = c.add_companions.new.definitions in
    subst HaveOwnPaths (sym c.into_found-found.ensures)
    (own_paths definitions.found.items c.in_ok-add_companions.ensures.kept.next c.in_ok-add_companions.ensures.kept.apart)

pub returns : goal.returns
returns c =
    let all = c.in_ok-entering.field-0 in
    let definitions = c.add_companions.new.definitions in
    let beside : Beside = record { items = c.in_ok-joined.field-0; names = all.names; problems = c.from_vec.result } in
    IfOk-weaker c.table_of.result (IsMadeOf c.into_found-found.result.items beside) (IsTable (sources_of c.args.units.now))
    (λ table made. table_is c.args.units.now all definitions c.add_companions.new.problems.items beside table c.in_ok-entering.ensures
    c.in_ok-add_companions.ensures.completed c.in_ok-add_companions.ensures.kept
    (subst (λ found. IsMadeOf found beside table) c.into_found-found.ensures made)
    (c.in_ok-joined.ensures ∙ ap (λ items. items ++ all.entering.qualifiers)
    (c.in_ok-items.ensures ∙ ap (flat_map found_items) (c.as_slice.ensures.value ∙ c.into_found-found.ensures)))
    refl c.from_vec.ensures)
    c.table_of.ensures
