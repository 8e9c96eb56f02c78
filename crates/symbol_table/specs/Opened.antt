-- The packages that a source opens, beside the definitions so far.
use Rattle.std.specs.Prelude.{◌≡◌, ℕ, List, ◌++◌, map, Option}
use Rattle.pc_terms.specs.declared.symbols.SymPath.{SymPath}
use Rattle.pc_terms.specs.declared.symbols.SymStep.{SymStep}
use Rattle.positioned_trees.specs.declared.details.Name.{Name}
use Rattle.symbol_table.specs.declared.definitions.Found.{Found}
use Rattle.symbol_table.specs.Definitions.{Opening, new_among, decl_of, opened_in}
use Rattle.symbol_table.specs.Entering.{decls_of}
use Rattle.symbol_table.specs.Found.{IsOwner, owner_steps}
use Rattle.symbol_table.specs.Owners.{package_step}

abbrev pub paths_of : List Found → List SymPath
paths_of found = map (λ d. d.decl.path) found

abbrev pub opening : ℕ → Name → Opening
opening node name = record { name = name; node = node }

abbrev pub opening_steps : List Opening → List SymStep
opening_steps openings = map (λ o. package_step o.name) openings

-- Of the packages that these open, in the one of this path, the new ones are added, and the number is that of the innermost.
pub record Opens (file : ℕ) (outer : List SymStep) (openings : List Opening) (old new : List Found) (innermost : Option ℕ) : Type 0 where
  pub more : List Found
  pub found : new ≡ old ++ more
  pub decls : decls_of more ≡ map decl_of (new_among (paths_of old) (opened_in file outer openings))
  pub owner : IsOwner new innermost
  pub path : owner_steps new innermost ≡ outer ++ opening_steps openings
