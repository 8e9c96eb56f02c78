-- Sources are entered one after the other.
use Rattle.std.proofs.Common.{◌≡◌, ℕ, ◌+◌, ◌<◌, List, [], ◌∷◌, ◌++◌, length, Some, refl, sym, ap, subst, ◌∙◌, arith}
use Rattle.std.specs.List.{slice_get}
use Rattle.std.specs.Option.{option_map}
use Rattle.std.proofs.lemmas.List.{take_more, length-take-le, length-map}
use Rattle.std.proofs.lemmas.List.FromFn.{map-range_with_len_more}
use Rattle.std.proofs.lemmas.Option.{slice_get-map, slice_get_within, get_or_from_slice_get}
use Rattle.pc_terms.specs.declared.problems.Problem.{Problem}
use Rattle.symbol_table.specs.declared.entering.AllEntered.{AllEntered}
use Rattle.symbol_table.specs.declared.loading.Loaded.{Loaded}
use Rattle.symbol_table.specs.Found.{IsKept}
use Rattle.symbol_table.specs.Items.{Source, roots_of, names_of}
use Rattle.symbol_table.specs.Sources.{told_in, HasEntered, AreEntered, AddsSource}
use Rattle.symbol_table.specs.Tables.{source_of, sources_of}

none_before : (sources : List Source) → HasEntered sources 0 [] []
none_before sources = record {
  packages = refl;
  written = refl;
  imports = refl;
  known = λ _. record { each = λ _ _ _. refl };
}

-- before the first one
pub none_entered : (sources : List Source) (all : AllEntered) → IsKept all.entering.definitions → all.entering.definitions.found.items ≡ []
    → all.entering.qualifiers ≡ [] → all.entering.told ≡ [] → all.names ≡ [] → all.problems.items ≡ [] → AreEntered sources 0 all
none_entered sources all kept found qualifiers told names problems = record {
  kept = kept;
  told = told;
  names = names;
  problems = problems;
  entered = subst (λ f. HasEntered sources 0 f all.entering.qualifiers) (sym found)
      (subst (λ q. HasEntered sources 0 [] q) (sym qualifiers) (none_before sources));
}

-- one more
pub source_added : (sources : List Source) (source : Source) (count : ℕ) (old new : AllEntered) (problems : List Problem) → slice_get sources count ≡ Some source
    → AreEntered sources count old → IsKept new.entering.definitions → new.entering.told ≡ []
    → HasEntered sources (count + 1) new.entering.definitions.found.items new.entering.qualifiers → problems ≡ told_in (roots_of sources) count
    → new.names ≡ old.names ++ source.name ∷ [] → new.problems.items ≡ old.problems.items ++ problems ∷ []
    → AreEntered sources (count + 1) new
source_added sources source count old new problems here before kept told entered wrong names all =
    let named : slice_get (names_of sources) count ≡ Some source.name = slice_get-map (λ s. s.name) sources count ∙ ap (option_map (λ s. s.name)) here in record {
      kept = kept;
      told = told;
      names = names ∙ (λ i. before.names i ++ sym (get_or_from_slice_get (names_of sources) count source.name source.name named) i ∷ [])
          ∙ sym (take_more (names_of sources) count source.name (slice_get_within (names_of sources) count source.name named));
      problems = all ∙ (λ i. before.problems i ++ wrong i ∷ []) ∙ sym (map-range_with_len_more (told_in (roots_of sources)) 0 count count (omega arith));
      entered = entered;
    }

-- where the position is that of the names so far
pub one_added : (units : List Loaded) (count : ℕ) (loaded : Loaded) (old new : AllEntered) → AreEntered (sources_of units) count old
    → count < length units → slice_get units count ≡ Some loaded → AddsSource (source_of loaded) old new → AreEntered (sources_of units) (count + 1) new
one_added units count loaded old new before within here adds =
    let sources : List Source = sources_of units in
    let long : length old.names ≡ count =
    ap length before.names ∙ length-take-le count (names_of sources) (omega (arith, within, length-map units source_of, length-map sources (λ s. s.name))) in
    let read : slice_get sources count ≡ Some (source_of loaded) = slice_get-map source_of units count ∙ ap (option_map source_of) here in
    subst (λ n. AreEntered sources (n + 1) new) long
    (adds sources (subst (λ n. slice_get sources n ≡ Some (source_of loaded)) (sym long) read) (subst (λ n. AreEntered sources n old) (sym long) before))
