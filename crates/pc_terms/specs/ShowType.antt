-- How types are printed.
use Rattle.std.specs.Prelude.{ℕ, ◌-◌, ◌==◌, Bool, true, false, not, ◌&&◌, if◌then◌else◌, List, [], ◌∷◌, ◌++◌, length, take, map, codes, Option, Some, None, slice_get}
use Rattle.std.specs.Str.{bytes_eq}
use Rattle.pc_terms.specs.Show.{is_scala, path_text, last_name}
use Rattle.pc_terms.specs.declared.symbols.SymStep.{SymStep}
use Rattle.pc_terms.specs.declared.symbols.SymPath.{SymPath}
use Rattle.pc_terms.specs.declared.types.Ty.{Ty}
use Rattle.pc_terms.specs.declared.types.Formal.{Formal}
use Rattle.pc_terms.specs.declared.types.Ty.TheOpen.{Ty-F, Formal-F, Class, Param, Module, Package, Method, Poly, Error}
use Rattle.pc_terms.specs.declared.types.Ty.TheFolds.{fold-Ty, fold-Formal}

-- a printed type, and whether it is a function or a tuple, which stands in parentheses as the one parameter of a function
pub record Shown : Type 0 where
  pub text : List ℕ
  pub compound : Bool

abbrev pub plain : List ℕ → Shown
plain text = record { text = text; compound = false }

abbrev pub joined_after : List ℕ → List (List ℕ) → List ℕ
joined_after before [] = []
joined_after before (text ∷ texts) = before ++ text ++ joined_after (codes ", ") texts

-- texts with commas between them
abbrev pub joined : List (List ℕ) → List ℕ
joined texts = joined_after [] texts

-- a type parameter's own name
unfoldable pub param_name : SymPath → List ℕ
param_name path = last_name path.steps

abbrev pub texts_of : List Shown → List (List ℕ)
texts_of shown = map (λ s. s.text) shown

-- the class of this name in the package `scala`
abbrev pub is_named : List ℕ → List SymStep → Bool
is_named name (owner ∷ step ∷ []) = is_scala owner && bytes_eq step.name name
is_named _ _ = false

-- Function0 to Function3, with their parameters and their result
abbrev pub is_function : List SymStep → ℕ → Bool
is_function path count =
    if count == 1 then is_named (codes "Function0") path
    else (if count == 2 then is_named (codes "Function1") path
    else (if count == 3 then is_named (codes "Function2") path
    else (if count == 4 then is_named (codes "Function3") path else false)))

-- Tuple2 and Tuple3, with their elements
abbrev pub is_tuple : List SymStep → ℕ → Bool
is_tuple path count =
    if count == 2 then is_named (codes "Tuple2") path
    else (if count == 3 then is_named (codes "Tuple3") path else false)

abbrev pub in_parentheses : List ℕ → List ℕ
in_parentheses text = codes "(" ++ text ++ codes ")"

-- one parameter that is neither a function nor a tuple
abbrev pub is_alone : List Shown → Bool
is_alone (parameter ∷ []) = not parameter.compound
is_alone _ = false

-- what stands before the arrow of a function
abbrev pub parameters_text : List Shown → List ℕ
parameters_text parameters =
    if is_alone parameters then joined (texts_of parameters) else in_parentheses (joined (texts_of parameters))

abbrev pub result_text : Option Shown → List ℕ
result_text None = []
result_text (Some result) = result.text

-- a function, of the types of its parameters and, after these, of its result
abbrev pub function_text : List Shown → List ℕ
function_text types =
    parameters_text (take (length types - 1) types) ++ codes " => " ++ result_text (slice_get types (length types - 1))

abbrev pub in_brackets : List ℕ → List ℕ
in_brackets text = codes "[" ++ text ++ codes "]"

abbrev pub arguments_text : List Shown → List ℕ
arguments_text [] = []
arguments_text (first ∷ types) = in_brackets (joined (texts_of (first ∷ types)))

abbrev pub class_shown : List SymStep → List Shown → Shown
class_shown path types =
    if is_function path (length types) then record { text = function_text types; compound = true }
    else (if is_tuple path (length types) then record { text = in_parentheses (joined (texts_of types)); compound = true }
    else plain (path_text path ++ arguments_text types))

abbrev pub type_step : Ty-F Shown (List ℕ) → Shown
type_step (Class path types) = class_shown path.steps types
type_step (Param path) = plain (param_name path)
type_step (Module path) = plain (path_text path.steps ++ codes ".type")
type_step (Package path) = plain (codes "package " ++ path_text path.steps)
type_step (Method formals result) = plain (in_parentheses (joined formals) ++ result.text)
type_step (Poly params rest) = plain (in_brackets (joined (map param_name params)) ++ rest.text)
type_step Error = plain (codes "<error>")

abbrev pub formal_step : Formal-F Shown (List ℕ) → List ℕ
formal_step formal = formal.name ++ codes ": " ++ formal.ty.text ++ (if formal.repeated then codes "*" else [])

unfoldable pub shown : Ty → Shown
shown = fold-Ty Shown (List ℕ) type_step formal_step

unfoldable pub formal_text : Formal → List ℕ
formal_text = fold-Formal Shown (List ℕ) type_step formal_step

-- A type: a class by its path and its arguments, a function by its arrow, a tuple by its parentheses, a parameter by its
-- name, a method by its parameters and its result.
abbrev pub type_text : Ty → List ℕ
type_text ty = (shown ty).text
