-- How symbols and types are printed.
use Rattle.std.specs.Prelude.{ℕ, ◌-◌, Bool, true, false, ◌&&◌, if◌then◌else◌, ◌==◌, List, [], ◌∷◌, ◌++◌, length, codes, Option, Some, None, slice_get}
use Rattle.std.specs.Fmt.{decimal}
use Rattle.std.specs.Str.{bytes_eq}
use Rattle.pc_terms.specs.declared.symbols.SymKind.{SymKind}
use Rattle.pc_terms.specs.declared.symbols.SymKind.TheVariants.{Package, Class, Trait, Object, Val, Var, Lazy, Def, Alias, TypeParam, Param, Local}
use Rattle.pc_terms.specs.declared.symbols.SymStep.{SymStep}

-- ---- symbols

abbrev pub kind_word : SymKind → List ℕ
kind_word Package = codes "package"
kind_word Class = codes "class"
kind_word Trait = codes "trait"
kind_word Object = codes "object"
kind_word Val = codes "val"
kind_word Var = codes "var"
kind_word Lazy = codes "lazy"
kind_word Def = codes "def"
kind_word Alias = codes "alias"
kind_word TypeParam = codes "tparam"
kind_word Param = codes "param"
kind_word Local = codes "local"

-- what stands after a step, before the next one
abbrev pub separator : SymKind → List ℕ
separator Class = codes "#"
separator Trait = codes "#"
separator _ = codes "."

-- a later one of several methods of one name has its number after it
abbrev pub ordinal_text : SymKind → ℕ → List ℕ
ordinal_text Def ordinal = if ordinal == 0 then [] else codes "~" ++ decimal ordinal
ordinal_text _ _ = []

abbrev pub step_text : SymStep → List ℕ
step_text step = step.name ++ ordinal_text step.kind step.ordinal

-- the steps, the first of them after this separator
abbrev pub steps_text : List ℕ → List SymStep → List ℕ
steps_text before [] = []
steps_text before (step ∷ steps) = before ++ step_text step ++ steps_text (separator step.kind) steps

abbrev pub is_package : SymKind → Bool
is_package Package = true
is_package _ = false

abbrev pub is_local : SymKind → Bool
is_local Local = true
is_local _ = false

abbrev pub is_scala : SymStep → Bool
is_scala step = is_package step.kind && bytes_eq step.name (codes "scala")

-- the steps without a leading package `scala`, unless there is no other
abbrev pub without_scala : List SymStep → List SymStep
without_scala [] = []
without_scala (step ∷ []) = step ∷ []
without_scala (step ∷ next ∷ steps) = if is_scala step then next ∷ steps else step ∷ next ∷ steps

-- what is defined within a member is printed alone, with the byte at which it starts
abbrev pub local_text : SymStep → List ℕ
local_text step = step.name ++ codes "@" ++ decimal step.ordinal

-- the symbol itself: the last step
abbrev pub last_step : List SymStep → Option SymStep
last_step path = slice_get path (length path - 1)

abbrev pub path_text_by_last : List SymStep → Option SymStep → List ℕ
path_text_by_last path None = []
path_text_by_last path (Some step) = if is_local step.kind then local_text step else steps_text [] (without_scala path)

-- A path: its steps with `#` after a class or trait and `.` after any other, without a leading `scala.`.
abbrev pub path_text : List SymStep → List ℕ
path_text path = path_text_by_last path (last_step path)

abbrev pub kind_word_of : Option SymStep → List ℕ
kind_word_of None = []
kind_word_of (Some step) = kind_word step.kind

abbrev pub name_of : Option SymStep → List ℕ
name_of None = []
name_of (Some step) = step.name

-- A symbol: its kind, and its path.
abbrev pub symbol_text : List SymStep → List ℕ
symbol_text path = kind_word_of (last_step path) ++ codes " " ++ path_text path

abbrev pub last_name : List SymStep → List ℕ
last_name path = name_of (last_step path)
