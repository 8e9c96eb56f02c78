use Rattle.std.proofs.Common.{◌≡◌, length, refl, subst, arith}
use Rattle.std.proofs.lemmas.Option.{slice_get_read}
use Rattle.symbol_table.specs.Sources.{AreEntered}
use Rattle.symbol_table.specs.Tables.{sources_of}
use Rattle.symbol_table.proofs.SourcesEntered.{none_entered, one_added}
use Rattle.symbol_table.proofs.entering.enter_sources.Goals as goal

pub loop-loaded-init : goal.loop-loaded-init
loop-loaded-init c =
    none_entered (sources_of c.args.units.now) (record { entering = c.new.result; names = c.new-2.result; problems = c.new-3.result })
    c.new.ensures.kept c.new.ensures.found c.new.ensures.qualifiers c.new.ensures.told c.new-2.ensures c.new-3.ensures.items

pub loop-loaded-preserved : goal.loop-loaded-preserved
loop-loaded-preserved c =
    let units = c.args.units.now in
    let at = c.loop-loaded.loaded-index in
    one_added units at c.loaded-item.result c.loop-loaded.all c.add_source.new.all c.loop-loaded.invariant c.loop-loaded-test.true
    (slice_get_read units (length units) at c.loaded-item.result refl c.loop-loaded-test.true c.loaded-item.is) c.in_ok-add_source.ensures

pub returns : goal.returns
returns c =
    let all : c.loop-loaded.loaded-index ≡ length c.args.units.now = omega (arith, c.loop-loaded-test.false, c.loop-loaded.auto.loaded-index-end) in
    subst (λ n. AreEntered (sources_of c.args.units.now) n c.loop-loaded.all) all c.loop-loaded.invariant
