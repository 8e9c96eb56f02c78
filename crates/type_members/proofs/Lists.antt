-- The lists of parameters of a type, constructor by constructor.
use Rattle.std.proofs.Common.{◌≡◌, ℕ, List, [], ◌∷◌, ◌++◌, filter, sym, ap, ◌∙◌}
use Rattle.std.proofs.lemmas.List.{append-nil, append_assoc}
use Rattle.pc_terms.specs.declared.symbols.SymPath.{SymPath}
use Rattle.pc_terms.specs.declared.types.Formal.{Formal}
use Rattle.pc_terms.specs.declared.types.Ty.{Ty}
use Rattle.pc_terms.specs.declared.types.Ty.TheFolds.{fold-roll-Ty}
use Rattle.pc_terms.specs.declared.types.Ty.TheOpen as layer
use Rattle.pc_terms.specs.declared.types.Ty.TheOpen.{Ty-F}
use Rattle.pc_terms.specs.declared.types.Ty.TheVariants.{Method, Poly, rolls-Method, rolls-Poly}
use Rattle.pc_terms.specs.declared.types.Ty.TheViews.{out-Ty, roll-Ty, out-roll-Ty, roll-out-Ty}
use Rattle.type_members.specs.Types.{layers, layers_step, no_layers, lists_in, lists_within, all_lists, parameter_lists, has_some}

lists-roll : (x : Ty-F Ty Formal) → all_lists (roll-Ty x) ≡ lists_in all_lists x
unfolding all_lists layers
lists-roll (layer.Class path types) = ap (λ n. lists_within n (roll-Ty (layer.Class path types))) (fold-roll-Ty ℕ ℕ layers_step no_layers (layer.Class path types))
lists-roll (layer.Param path) = ap (λ n. lists_within n (roll-Ty (layer.Param path))) (fold-roll-Ty ℕ ℕ layers_step no_layers (layer.Param path))
lists-roll (layer.Module path) = ap (λ n. lists_within n (roll-Ty (layer.Module path))) (fold-roll-Ty ℕ ℕ layers_step no_layers (layer.Module path))
lists-roll (layer.Package path) = ap (λ n. lists_within n (roll-Ty (layer.Package path))) (fold-roll-Ty ℕ ℕ layers_step no_layers (layer.Package path))
lists-roll (layer.Method formals gives) =
    ap (λ n. lists_within n (roll-Ty (layer.Method formals gives))) (fold-roll-Ty ℕ ℕ layers_step no_layers (layer.Method formals gives))
    ∙ ap (lists_in (λ ty. lists_within (layers gives) ty)) (out-roll-Ty (layer.Method formals gives))
lists-roll (layer.Poly params rest) =
    ap (λ n. lists_within n (roll-Ty (layer.Poly params rest))) (fold-roll-Ty ℕ ℕ layers_step no_layers (layer.Poly params rest))
    ∙ ap (lists_in (λ ty. lists_within (layers rest) ty)) (out-roll-Ty (layer.Poly params rest))
lists-roll layer.Error = ap (λ n. lists_within n (roll-Ty layer.Error)) (fold-roll-Ty ℕ ℕ layers_step no_layers layer.Error)

pub lists-out : (ty : Ty) → all_lists ty ≡ lists_in all_lists (out-Ty ty)
lists-out ty = ap all_lists (sym (roll-out-Ty ty)) ∙ lists-roll (out-Ty ty)

pub lists-Method : (formals : List Formal) (gives : Ty) → all_lists (Method formals gives) ≡ formals ∷ all_lists gives
lists-Method formals gives = ap all_lists (sym (rolls-Method formals gives)) ∙ lists-roll (layer.Method formals gives)

pub lists-Poly : (params : List SymPath) (rest : Ty) → all_lists (Poly params rest) ≡ all_lists rest
lists-Poly params rest = ap all_lists (sym (rolls-Poly params rest)) ∙ lists-roll (layer.Poly params rest)

pub ruleset lists_of = (lists-Method, lists-Poly)

-- where a type has no parameters
pub none-behind : {X : Type 0} (xs : List X) (ys : List X) → ys ≡ [] → xs ≡ xs ++ ys
none-behind xs ys e = sym (append-nil xs) ∙ ap (λ zs. xs ++ zs) (sym e)

-- what is counted of the first list stands before what is counted of those behind it
pub first-list : (old : List (List Formal)) (formals : List Formal) (gives : Ty)
    → (old ++ filter has_some (formals ∷ [])) ++ parameter_lists gives ≡ old ++ parameter_lists (Method formals gives)
first-list old [] gives = ap (λ xs. xs ++ parameter_lists gives) (append-nil old) ∙ ap (λ xs. old ++ filter has_some xs) (sym (lists-Method [] gives))
first-list old (formal ∷ formals) gives =
    append_assoc old ((formal ∷ formals) ∷ []) (parameter_lists gives) ∙ ap (λ xs. old ++ filter has_some xs) (sym (lists-Method (formal ∷ formals) gives))
