-- What an owner owns, by the place of its path.
use Rattle.std.proofs.Common.{◌≡◌, ℕ, false, List, [], ◌∷◌, Option, refl, sym, ap}
use Rattle.std.specs.Bool.{IsTrue}
use Rattle.std.specs.List.{slice_get}
use Rattle.std.specs.Option.{option_and_then, unwrap_or}
use Rattle.std.proofs.lemmas.Bool.{false≢true}
use Rattle.pc_terms.specs.declared.symbols.SymStep.{SymStep}
use Rattle.symbol_table.specs.declared.table.Table.{Table}
use Rattle.symbol_table.specs.Groups.{no_group}
use Rattle.symbol_table.specs.Owners.{path_of}
use Rattle.symbol_table.specs.Tables.{place_of, group_at}

pub group-placed : (table : Table) (steps : List SymStep) (place : Option ℕ) → (steps ≡ [] → IsTrue false) → place_of table (path_of steps) ≡ place
    → unwrap_or (option_and_then (λ at. slice_get table.groups at) place) no_group ≡ group_at table steps
group-placed table [] place some e = absurd (false≢true (some refl))
group-placed table (step ∷ steps) place some e = ap (λ o. unwrap_or (option_and_then (λ at. slice_get table.groups at) o) no_group) (sym e)
