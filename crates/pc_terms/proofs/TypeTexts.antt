-- How a type is printed, constructor by constructor.
use Rattle.std.proofs.Common.{◌≡◌, List, ℕ, ◌+◌, ◌-◌, ◌<◌, map, ◌++◌, length, take, get_or, codes, refl, sym, ap, ◌∙◌, arith}
use Rattle.std.proofs.lemmas.List.{length-map, take-map}
use Rattle.std.proofs.lemmas.Option.{slice_get-map, slice_get_read}
use Rattle.pc_terms.specs.Show.{path_text}
use Rattle.pc_terms.specs.ShowType.{Shown, plain, shown, formal_text, type_step, formal_step, class_shown, in_parentheses, in_brackets, joined, param_name, function_text, parameters_text}
use Rattle.pc_terms.specs.declared.symbols.SymPath.{SymPath}
use Rattle.pc_terms.specs.declared.types.Ty.{Ty}
use Rattle.pc_terms.specs.declared.types.Formal.{Formal, out-Formal}
use Rattle.pc_terms.specs.declared.types.Ty.TheOpen as layer
use Rattle.pc_terms.specs.declared.types.Ty.TheVariants.{Class, Param, Module, Package, Method, Poly, Error, rolls-Class, rolls-Param, rolls-Module, rolls-Package, rolls-Method, rolls-Poly, rolls-Error}
use Rattle.pc_terms.specs.declared.types.Ty.TheFolds.{fold-roll-Ty, fold_out-Formal}

pub shown-Class : (path : SymPath) (args : List Ty) → shown (Class path args) ≡ class_shown path.steps (map shown args)
unfolding shown
shown-Class path args = ap shown (sym (rolls-Class path args)) ∙ fold-roll-Ty Shown (List ℕ) type_step formal_step (layer.Class path args)

pub shown-Param : (path : SymPath) → shown (Param path) ≡ plain (param_name path)
unfolding shown
shown-Param path = ap shown (sym (rolls-Param path)) ∙ fold-roll-Ty Shown (List ℕ) type_step formal_step (layer.Param path)

pub shown-Module : (path : SymPath) → shown (Module path) ≡ plain (path_text path.steps ++ codes ".type")
unfolding shown
shown-Module path = ap shown (sym (rolls-Module path)) ∙ fold-roll-Ty Shown (List ℕ) type_step formal_step (layer.Module path)

pub shown-Package : (path : SymPath) → shown (Package path) ≡ plain (codes "package " ++ path_text path.steps)
unfolding shown
shown-Package path = ap shown (sym (rolls-Package path)) ∙ fold-roll-Ty Shown (List ℕ) type_step formal_step (layer.Package path)

pub shown-Method : (formals : List Formal) (gives : Ty) → shown (Method formals gives) ≡ plain (in_parentheses (joined (map formal_text formals)) ++ (shown gives).text)
unfolding shown formal_text
shown-Method formals gives = ap shown (sym (rolls-Method formals gives)) ∙ fold-roll-Ty Shown (List ℕ) type_step formal_step (layer.Method formals gives)

pub shown-Poly : (params : List SymPath) (rest : Ty) → shown (Poly params rest) ≡ plain (in_brackets (joined (map param_name params)) ++ (shown rest).text)
unfolding shown
shown-Poly params rest = ap shown (sym (rolls-Poly params rest)) ∙ fold-roll-Ty Shown (List ℕ) type_step formal_step (layer.Poly params rest)

pub shown-Error : shown Error ≡ plain (codes "<error>")
unfolding shown
shown-Error = ap shown (sym rolls-Error) ∙ fold-roll-Ty Shown (List ℕ) type_step formal_step layer.Error

pub formal_text-out : (formal : Formal) → formal_text formal ≡ formal_step (record { name = (out-Formal formal).name; ty = shown (out-Formal formal).ty; repeated = (out-Formal formal).repeated })
unfolding shown formal_text
formal_text-out formal = fold_out-Formal Shown (List ℕ) type_step formal_step formal

pub ruleset type_texts = (shown-Class, shown-Param, shown-Module, shown-Package, shown-Method, shown-Poly, shown-Error, formal_text-out)

-- a function's text, where its result is the last of its types
pub function_text-map : (tys : List Ty) (last : ℕ) (result : Ty) → last + 1 ≡ length tys → result ≡ get_or tys last result
    → function_text (map shown tys) ≡ parameters_text (map shown (take last tys)) ++ codes " => " ++ (shown result).text
function_text-map tys last result counted is_last =
    let at_last : last < length tys = omega arith in
    let less : length (map shown tys) - 1 ≡ last = omega (arith, length-map tys shown) in
    rw (less, take-map, slice_get-map, slice_get_read tys (length tys) last result refl at_last is_last) refl
