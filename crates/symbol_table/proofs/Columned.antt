-- The columns of definitions, one after the other.
use Rattle.std.proofs.Common.{◌≡◌, false, List, ◌∷◌, ◌++◌, length, get_or, sym, subst, ◌∙◌, arith}
use Rattle.std.proofs.Math.Seq.{get_or-append_seam}
use Rattle.std.specs.List.{list_any, IsDistinct}
use Rattle.std.proofs.lemmas.Bool.Decides.{same_from_decides}
use Rattle.std.proofs.lemmas.List.{map-append, length-append, get_or_append_left}
use Rattle.std.proofs.lemmas.List.Folds.{list_any_none}
use Rattle.std.proofs.lemmas.Map.Keys.{apart_from_distinct}
use Rattle.pc_terms.specs.declared.symbols.SymPath.{SymPath}
use Rattle.type_substitution.specs.Substitution.{path_eq}
use Rattle.type_substitution.proofs.Exact.{path-exact}
use Rattle.symbol_table.specs.declared.definitions.Found.{Found}
use Rattle.symbol_table.specs.Made.{HaveOwnPaths}
use Rattle.symbol_table.specs.Opened.{paths_of}

pub path_flips : (x y : SymPath) → path_eq x y ≡ path_eq y x
path_flips x y =
    let there = path-exact x y in
    let back = path-exact y x in
    same_from_decides (path_eq x y) (path_eq y x) there (λ h. sym (back.0 h), λ e. back.1 (sym e))

-- the path of one is none of those before it
pub fresh_path : (before rest : List Found) (one : Found) → HaveOwnPaths (before ++ one ∷ rest) → list_any (path_eq one.decl.path) (paths_of before) ≡ false
fresh_path before rest one own =
    let all : paths_of (before ++ one ∷ rest) ≡ paths_of before ++ one.decl.path ∷ paths_of rest = map-append (λ d. d.decl.path) before (one ∷ rest) in
    let distinct : IsDistinct path_eq (paths_of before ++ one.decl.path ∷ paths_of rest) = subst (IsDistinct path_eq) all own in
    list_any_none (path_eq one.decl.path) (paths_of before) (λ k d h.
    path_flips one.decl.path (get_or (paths_of before) k d)
    ∙ (λ i. path_eq (sym (get_or_append_left (paths_of before) (one.decl.path ∷ paths_of rest) d k h) i) (sym (get_or-append_seam (paths_of before) one.decl.path (paths_of rest) d) i))
    ∙ apart_from_distinct path_eq (paths_of before ++ one.decl.path ∷ paths_of rest) k (length (paths_of before)) d distinct h
    (omega (arith, length-append (paths_of before) (one.decl.path ∷ paths_of rest))))
