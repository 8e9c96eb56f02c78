use Rattle.std.proofs.Common.{◌≡◌, [], ap, ◌∙◌, List, ◌++◌, map, filter, subst, OnOk, rules}
use Rattle.pc_terms.specs.declared.types.Formal.{Formal}
use Rattle.pc_terms.specs.declared.types.Ty.{Method}
use Rattle.pc_terms.specs.declared.types.Ty.TheViews.{out-Ty}
use Rattle.type_members.specs.Types.{all_lists, lists_in, parameter_lists, has_some}
use Rattle.type_members.proofs.Lists.{lists-out, first-list, none-behind}
use Rattle.type_members.proofs.parameters.+push_lists.Goals as goal

pub returns-in-Class : goal.returns-in-Class
returns-in-Class t c =
    let none : lists_in all_lists (out-Ty c.args.ty.now) ≡ [] = search rules in
    none-behind _ (parameter_lists c.args.ty.now) (ap (filter has_some) (lists-out c.args.ty.now ∙ none))

pub returns-in-Class-2 : goal.returns-in-Class-2
returns-in-Class-2 t c =
    let none : lists_in all_lists (out-Ty c.args.ty.now) ≡ [] = search rules in
    none-behind _ (parameter_lists c.args.ty.now) (ap (filter has_some) (lists-out c.args.ty.now ∙ none))

pub returns-in-Class-3 : goal.returns-in-Class-3
returns-in-Class-3 t c =
    let none : lists_in all_lists (out-Ty c.args.ty.now) ≡ [] = search rules in
    none-behind _ (parameter_lists c.args.ty.now) (ap (filter has_some) (lists-out c.args.ty.now ∙ none))

pub returns-in-Class-4 : goal.returns-in-Class-4
returns-in-Class-4 t c =
    let none : lists_in all_lists (out-Ty c.args.ty.now) ≡ [] = search rules in
    none-behind _ (parameter_lists c.args.ty.now) (ap (filter has_some) (lists-out c.args.ty.now ∙ none))

pub returns-in-Class-5 : goal.returns-in-Class-5
returns-in-Class-5 t c =
    let none : lists_in all_lists (out-Ty c.args.ty.now) ≡ [] = search rules in
    none-behind _ (parameter_lists c.args.ty.now) (ap (filter has_some) (lists-out c.args.ty.now ∙ none))

pub returns-in_ok-push_list-in-Method : goal.returns-in_ok-push_list-in-Method
returns-in_ok-push_list-in-Method t c =
    let old : List (List Formal) = map (λ list. list.now) c.args.lists.now.items in
    let method : Method c.in-Method.formals c.get.result.now ≡ c.args.ty.now = search rules in
    subst (λ lists. OnOk c.push_lists.result (map (λ list. list.now) c.push_lists.new.lists.items ≡ lists))
    (ap (λ lists. lists ++ parameter_lists c.get.result.now) c.in_ok-push_list-in-Method.ensures
    ∙ first-list old c.in-Method.formals c.get.result.now ∙ ap (λ ty. old ++ parameter_lists ty) method) c.push_lists.ensures
