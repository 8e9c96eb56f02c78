use Rattle.std.proofs.Common.{◌≡◌, List, length, map, ap, arith}
use Rattle.std.proofs.lemmas.List.{length-map}
use Rattle.std.proofs.lemmas.List.FromFn.{length-map-range_with_len}
use Rattle.std.proofs.lemmas.Result.{IfOk-weaker}
use Rattle.symbol_table.specs.declared.loading.Loaded.{Loaded}
use Rattle.symbol_table.specs.Items.{roots_of}
use Rattle.symbol_table.specs.Problems.{problems}
use Rattle.symbol_table.specs.Tables.{source_of, sources_of, file_problems, IsTable}
use Rattle.table_checks.proofs.tests.entered.Goals as goal

pub returns : goal.returns
returns c =
    let loaded : List Loaded = c.as_slice.result.now in
    IfOk-weaker c.enter.result (IsTable (sources_of loaded)) (λ table. length (file_problems table) ≡ length c.args.units.now)
    (λ table is. omega (
      arith,
      ap length is.all_problems,
      length-map-range_with_len (problems (roots_of (sources_of loaded))) 0 (length (sources_of loaded)),
      length-map loaded source_of,
      ap length c.as_slice.ensures.value,
      c.loop-source.invariant,
      c.loop-source-test.false,
      c.loop-source.auto.source-index-end,
    ))
    c.enter.ensures
