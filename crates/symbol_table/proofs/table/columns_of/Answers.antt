use Rattle.std.proofs.Common.{◌≡◌, List, [], ◌∷◌, ◌++◌, length, sym, ap, subst, ◌∙◌, append_assoc, append-nil, arith}
use Rattle.std.specs.List.{list_any}
use Rattle.std.specs.Vec.Iter.{into_iter_items}
use Rattle.std.proofs.lemmas.List.{map-append, nil_from_length}
use Rattle.type_substitution.specs.Substitution.{path_eq}
use Rattle.symbol_table.specs.declared.definitions.Found.{Found}
use Rattle.symbol_table.specs.Made.{HaveOwnPaths, AreColumns}
use Rattle.symbol_table.proofs.Columned.{fresh_path}
use Rattle.symbol_table.proofs.table.columns_of.Goals as goal

pub push_decl-requires : goal.push_decl-requires
push_decl-requires c =
    let at = c.loop-each in
    let each : Found = c.in-Some.each in
    let rest : List Found = into_iter_items c.next.new.self in
    let steps : into_iter_items at.each-iterator ≡ each ∷ rest = c.in-Some.ensures.steps.0 in
    let whole : at.yielded ++ each ∷ rest ≡ c.args.found.items =
    ap (λ more. at.yielded ++ more) (sym steps) ∙ at.invariant.rest ∙ c.into_iter-each-iterator.ensures.into_iter_gives.0 in
    ap (list_any (path_eq each.decl.path)) at.invariant.columns.paths
    ∙ fresh_path at.yielded rest each (subst HaveOwnPaths (sym whole) c.requires)

pub loop-each-preserved : goal.loop-each-preserved
loop-each-preserved c =
    let at = c.loop-each in
    let each : Found = c.in-Some.each in
    let rest : List Found = into_iter_items c.next.new.self in
    let steps : into_iter_items at.each-iterator ≡ each ∷ rest = c.in-Some.ensures.steps.0 in
    let was = at.invariant.left in
    let gone = c.in-Some.ensures.steps.1 in
    let short = ap length steps in record {
      rest = append_assoc at.yielded (each ∷ []) rest ∙ ap (λ more. at.yielded ++ more) (sym steps) ∙ at.invariant.rest;
      left = omega arith;
      columns = record {
        paths = c.in_ok-push_decl.ensures.paths ∙ ap (λ paths. paths ++ each.decl.path ∷ []) at.invariant.columns.paths
            ∙ sym (map-append (λ d. d.decl.path) at.yielded (each ∷ []));
        decls = c.in_ok-push_decl.ensures.decls ∙ ap (λ decls. decls ++ each.decl ∷ []) at.invariant.columns.decls
            ∙ sym (map-append (λ d. d.decl) at.yielded (each ∷ []));
      };
    }

pub returns : goal.returns
returns c =
    let at = c.loop-each in
    let none = c.in-None.ensures.steps in
    let empty : into_iter_items at.each-iterator ≡ [] = nil_from_length (into_iter_items at.each-iterator) (sym at.invariant.left ∙ none.0) in
    let all : at.yielded ≡ c.args.found.items =
    sym (append-nil at.yielded) ∙ ap (λ more. at.yielded ++ more) (sym empty) ∙ at.invariant.rest ∙ c.into_iter-each-iterator.ensures.into_iter_gives.0 in
    subst (λ found. AreColumns found at.columns) all at.invariant.columns
