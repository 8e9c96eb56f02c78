-- The table of all sources.
use Rattle.std.proofs.Common.{◌≡◌, ◌<◌, ◌==◌, List, [], ◌∷◌, ◌++◌, map, length, take, get_or, refl, sym, ap, ◌∙◌, arith}
use Rattle.std.specs.List.{All, filter, flat_map, range_with_len}
use Rattle.std.proofs.lemmas.List.{length-map, take_all, same_lists}
use Rattle.std.proofs.lemmas.List.Elements.{All-head, All-tail, All-weaker}
use Rattle.std.proofs.lemmas.List.FromFn.{length-map-range_with_len, get_or-map-range_with_len}
use Rattle.pc_terms.specs.declared.problems.Problem.{Problem}
use Rattle.positioned_trees.specs.declared.trees.Tree.{Tree}
use Rattle.symbol_table.specs.declared.definitions.Definitions.{Definitions}
use Rattle.symbol_table.specs.declared.definitions.Found.{Found}
use Rattle.symbol_table.specs.declared.entering.AllEntered.{AllEntered}
use Rattle.symbol_table.specs.declared.loading.Loaded.{Loaded}
use Rattle.symbol_table.specs.declared.table.Beside.{Beside}
use Rattle.symbol_table.specs.declared.table.Table.{Table}
use Rattle.symbol_table.specs.Companions.{AreCompleted}
use Rattle.symbol_table.specs.Definitions.{packages, written, new_among, opened_behind, with_companions}
use Rattle.symbol_table.specs.Entering.{new_definitions}
use Rattle.symbol_table.specs.Found.{AreNext, IsKept, items_of_step, found_items}
use Rattle.symbol_table.specs.Items.{Source, roots_of, names_of, items_of, items_by, is_live_site, qualifiers, qualifiers_at}
use Rattle.symbol_table.specs.Made.{IsMadeOf}
use Rattle.symbol_table.specs.Problems.{problems, apply_problems}
use Rattle.symbol_table.specs.Sites.{sites_behind}
use Rattle.symbol_table.specs.Sources.{definition_in, definitions_in, names_package, is_no_package, told_in, AreEntered}
use Rattle.symbol_table.specs.Tables.{source_of, sources_of, IsTable}
use Rattle.symbol_table.proofs.Completed.{all_defined, all_items, all_told, so}
use Rattle.symbol_table.proofs.Numbered.{IsAmong, among, last-among, path-among}
use Rattle.symbol_table.proofs.Tabled.{all_own, at_path, by_owner, same_paths}

flat_through : {X Y A : Type 0} (f : X → List A) (g : Y → List A) (h : X → Y) (xs : List X) → All (λ x. f x ≡ g (h x)) xs → flat_map f xs ≡ flat_map g (map h xs)
flat_through f g h [] all = refl
flat_through f g h (x ∷ xs) all = λ i. All-head (λ y. f y ≡ g (h y)) x xs all i ++ flat_through f g h xs (All-tail (λ y. f y ≡ g (h y)) x xs all) i

pub items_found : (now : List Found) → AreNext now → flat_map found_items now ≡ flat_map items_of (definitions_in now)
items_found now nexts =
    flat_through found_items items_of (λ d. definition_in d.decl) now
    (All-weaker (IsAmong now) (λ d. found_items d ≡ items_of (definition_in d.decl))
    (λ d is. ap (λ o. items_of_step o d.decl.path) (last-among now d is) ∙ ap (items_by (definition_in d.decl).own.kind) (sym (path-among now d is)))
    now (among now nexts))

module _ (units : List Loaded) (all : AllEntered) (definitions : Definitions) (telling : List (List Problem)) (beside : Beside) (table : Table)
    (entered : AreEntered (sources_of units) (length units) all)
    (completed : AreCompleted all.entering.definitions.found.items definitions.found.items all.problems.items telling)
    (kept : IsKept definitions) (made : IsMadeOf definitions.found.items beside table) where
  abbrev sources : List Source
  sources = sources_of units

  abbrev roots : List Tree
  roots = roots_of sources

  abbrev old : List Found
  old = all.entering.definitions.found.items

  abbrev now : List Found
  now = definitions.found.items

  count_is : length roots ≡ length units
  count_is = length-map sources (λ s. s.root) ∙ length-map units source_of

  whole : take (length units) roots ≡ roots
  whole = take_all (length units) roots (omega (arith, count_is))

  opened : filter names_package (definitions_in old) ≡ packages roots
  opened = entered.entered.packages ∙ ap (λ rs. new_among [] (opened_behind 0 rs)) whole

  wrote : filter is_no_package (definitions_in old) ≡ written roots
  wrote = entered.entered.written ∙ ap (λ rs. new_definitions roots (sites_behind 0 rs)) whole

  imports : all.entering.qualifiers ≡ qualifiers sources
  imports = entered.entered.imports ∙ ap (λ rs. flat_map (qualifiers_at sources) (filter (is_live_site roots) (sites_behind 0 rs))) whole

  long : length all.problems.items ≡ length units
  long = ap length entered.problems ∙ length-map-range_with_len (told_in roots) 0 (length units)

  told_all : telling ≡ map (problems roots) (range_with_len 0 (length sources))
  told_all =
      let same : length sources ≡ length units = length-map units source_of in
      let as_many = (so roots old completed.middle now all.problems.items telling opened wrote completed.companions completed.applies).as_many in
      same_lists telling (map (problems roots) (range_with_len 0 (length sources)))
      (as_many ∙ long ∙ sym same ∙ sym (length-map-range_with_len (problems roots) 0 (length sources)))
      (λ k d h.
      let within : k < length units = omega (arith, h, as_many, long) in
      all_told roots old completed.middle now all.problems.items telling opened wrote completed.companions completed.applies k d (omega (arith, within, long))
      ∙ ap (λ first. first ++ flat_map (apply_problems (with_companions roots)) (filter (λ class. class.file == k) (written roots)))
      (ap (λ ps. get_or ps k d) entered.problems ∙ get_or-map-range_with_len (told_in roots) 0 (length units) k k d within (omega arith))
      ∙ sym (get_or-map-range_with_len (problems roots) 0 (length sources) k k d (omega (arith, within, same)) (omega arith)))

  pub table_is : beside.items ≡ flat_map found_items now ++ all.entering.qualifiers → beside.names ≡ all.names → beside.problems ≡ telling → IsTable sources table
  table_is listed named problem =
      let defined = all_defined roots old completed.middle now all.problems.items telling opened wrote completed.companions completed.applies in record {
        own_paths = all_own now kept.next kept.apart beside table made _ defined;
        at_path = at_path now kept.next kept.apart beside table made _ defined;
        by_owner = by_owner now kept.next kept.apart beside table made _ defined;
        same_paths = same_paths now kept.next kept.apart beside table made _ defined;
        all_items = made.items ∙ listed
            ∙ (λ i. (items_found now kept.next
            ∙ all_items roots old completed.middle now all.problems.items telling opened wrote completed.companions completed.applies) i ++ imports i);
        all_names = made.names ∙ named ∙ entered.names
            ∙ take_all (length units) (names_of sources) (omega (arith, length-map sources (λ s. s.name), length-map units source_of));
        all_problems = made.problems ∙ problem ∙ told_all;
      }
