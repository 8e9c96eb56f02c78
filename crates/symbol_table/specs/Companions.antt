-- What case classes add to the definitions so far.
use Rattle.std.specs.Prelude.{◌≡◌, ℕ, ◌<◌, ◌==◌, Bool, true, false, ◌&&◌, ◌||◌, if◌then◌else◌, List, [], ◌∷◌, ◌++◌, map, take, filter, length, slice_get, slice_index_or, slice_set, Option, Some, None, option_map, option_and_then, is_some}
use Rattle.std.specs.List.{All, flat_map}
use Rattle.pc_terms.specs.Show.{last_step}
use Rattle.pc_terms.specs.declared.problems.Problem.{Problem}
use Rattle.pc_terms.specs.declared.symbols.SymKind.TheVariants as symbol
use Rattle.pc_terms.specs.declared.symbols.SymStep.{SymStep}
use Rattle.positioned_trees.specs.declared.details.Name.{Name}
use Rattle.symbol_table.specs.declared.companions.CaseClass.{CaseClass}
use Rattle.symbol_table.specs.declared.definitions.Found.{Found}
use Rattle.symbol_table.specs.declared.definitions.Standing.{Standing}
use Rattle.symbol_table.specs.declared.name_spaces.NameSpace.{NameSpace}
use Rattle.symbol_table.specs.declared.name_spaces.NameSpace.TheVariants as space
use Rattle.symbol_table.specs.declared.owned_names.Seen.{Seen}
use Rattle.symbol_table.specs.Definitions.{Definition, is_prelude, apply_name, added_companion, added_apply}
use Rattle.symbol_table.specs.Found.{seen_under, is_admitted, defined}
use Rattle.symbol_table.specs.Owners.{package_step}
use Rattle.symbol_table.specs.Problems.{double, apply_problems}
use Rattle.symbol_table.specs.Sources.{definitions_in, names_package}
use Rattle.symbol_table.specs.Symbols.{is_class, is_object, plain_flags}

-- ---- one case class

abbrev pub case_step_by : Bool → Option SymStep → Option SymStep
case_step_by case_ None = None
case_step_by case_ (Some own) = if is_class own.kind && case_ then Some own else None

-- the own step of a case class
abbrev pub case_step : Found → Option SymStep
case_step found = case_step_by found.decl.flags.case_ (last_step found.decl.path.steps)

abbrev pub standing_of_class : Found → Standing
standing_of_class found = record {
  file = found.decl.file;
  node = found.decl.node;
  label_span = found.decl.label_span;
  flags = plain_flags (is_prelude found.decl.file);
}

abbrev pub class_by : Found → SymStep → CaseClass
class_by found own = record { owner = found.owner; name = own.name; standing = standing_of_class found }

abbrev pub case_class_of : Found → Option CaseClass
case_class_of found = option_map (class_by found) (case_step found)

abbrev pub case_class_at : List Found → ℕ → Option CaseClass
case_class_at found number = option_and_then case_class_of (slice_get found number)

-- ---- its companion

abbrev pub is_seen : List Found → Option ℕ → NameSpace → List ℕ → Bool
is_seen found owner space name = is_some (seen_under found owner space name)

-- the packages of the root are no terms of the empty package, which has no number either
abbrev pub has_term : List Found → Option ℕ → List ℕ → Bool
has_term found owner name = is_seen found owner space.Terms name || (is_some owner && is_seen found owner space.Packages name)

abbrev pub with_companion : List Found → CaseClass → List Found
with_companion found class =
    if has_term found class.owner class.name then found else defined found class.owner symbol.Object class.name class.standing

abbrev pub is_in_file : ℕ → Option Found → Bool
is_in_file file None = false
is_in_file file (Some found) = found.decl.file == file

abbrev pub number_seen : List Found → ℕ → Option Seen → Option ℕ
number_seen found file None = None
number_seen found file (Some seen) = if is_object seen.kind && is_in_file file (slice_get found seen.number) then Some seen.number else None

-- the number of its companion, which is in its file
abbrev pub companion_number : List Found → CaseClass → Option ℕ
companion_number found class = number_seen found class.standing.file (seen_under found class.owner space.Terms class.name)

-- ---- the method that it adds

abbrev pub with_apply_of : List Found → CaseClass → Option ℕ → List Found
with_apply_of found class None = found
with_apply_of found class (Some object) = defined found (Some object) symbol.Def apply_name class.standing

abbrev pub with_apply : List Found → CaseClass → List Found
with_apply found class = with_apply_of found class (companion_number found class)

abbrev pub apply_problem_of : List Found → CaseClass → Option ℕ → Option Problem
apply_problem_of found class None = None
apply_problem_of found class (Some object) =
    if is_admitted found (Some object) symbol.Def apply_name then None else Some (double class.standing.label_span apply_name)

abbrev pub apply_problem : List Found → CaseClass → Option Problem
apply_problem found class = apply_problem_of found class (companion_number found class)

-- ---- by number

abbrev pub companion_added : List Found → Option CaseClass → List Found
companion_added found None = found
companion_added found (Some class) = with_companion found class

abbrev pub apply_added : List Found → Option CaseClass → List Found
apply_added found None = found
apply_added found (Some class) = with_apply found class

-- ---- problems

-- a problem more of the source at this position
abbrev pub told_more : List (List Problem) → ℕ → Problem → List (List Problem)
told_more problems file problem = slice_set problems file (slice_index_or problems file [] ++ problem ∷ [])

abbrev pub told_once : List (List Problem) → ℕ → Option Problem → List (List Problem)
told_once problems file None = problems
told_once problems file (Some problem) = told_more problems file problem

abbrev pub told_by : List Found → List (List Problem) → Option CaseClass → List (List Problem)
told_by found problems None = problems
told_by found problems (Some class) = told_once problems class.standing.file (apply_problem found class)

-- ---- all case classes

-- Of these, the first have their companions.
pub record HasCompanions (old now : List Found) (count : ℕ) : Type 0 where
  pub more : List Found
  pub found : now ≡ old ++ more
  pub added : definitions_in more ≡ flat_map (added_companion (definitions_in old)) (take count (definitions_in old))

-- what it owns is a package, so that is in packages
pub record StandsInPackages (d : Definition) : Type 0 where
  pub names : List Name
  pub owner : d.owner ≡ map package_step names

abbrev pub PackagesStandWell : List Definition → Type 0
PackagesStandWell ds = All (λ d. names_package d ≡ true → StandsInPackages d) ds

-- And their methods; the problems are told source by source.
pub record HasApplies (old now : List Found) (told telling : List (List Problem)) (count : ℕ) : Type 0 where
  pub more : List Found
  pub found : now ≡ old ++ more
  pub added : definitions_in more ≡ flat_map (added_apply (definitions_in old)) (take count (definitions_in old))
  pub as_many : length telling ≡ length told
  pub problems : (file : ℕ) (d : List Problem) → file < length told → slice_index_or telling file d
      ≡ slice_index_or told file d ++ flat_map (apply_problems (definitions_in old)) (filter (λ class. class.file == file) (take count (definitions_in old)))

-- All case classes have what they add.
pub record AreCompleted (old now : List Found) (told telling : List (List Problem)) : Type 0 where
  pub middle : List Found
  pub companions : HasCompanions old middle (length old)
  pub applies : PackagesStandWell (definitions_in middle) → HasApplies middle now told telling (length old)
