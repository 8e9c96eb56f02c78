use Rattle.std.proofs.Common.{◌≡◌, None, refl, subst}
use Rattle.std.proofs.lemmas.List.Sorted.{IsPermutation-map}
use Rattle.std.proofs.lemmas.Map.Keys.{IsDistinct-IsPermutation}
use Rattle.type_substitution.specs.Substitution.{path_eq}
use Rattle.symbol_table.specs.declared.definitions.Found.{Found}
use Rattle.symbol_table.specs.Groups.{part}
use Rattle.symbol_table.specs.Opened.{paths_of}
use Rattle.symbol_table.specs.Order.{owned_by, AreGroups}
use Rattle.symbol_table.proofs.Columned.{path_flips}
use Rattle.symbol_table.proofs.table.table_of.Goals as goal

pub columns_of-requires : goal.columns_of-requires
columns_of-requires c =
    let found = c.args.found.items in
    let sorted = c.put_in_order.new.found.items in
    IsDistinct-IsPermutation path_eq path_flips (paths_of found) (paths_of sorted)
    (IsPermutation-map (λ (d : Found). d.decl.path) found sorted c.put_in_order.ensures.permutation) c.requires

pub returns : goal.returns
returns c = record {
  sorted = c.put_in_order.new.found.items;
  permutation = c.put_in_order.ensures.permutation;
  in_order = c.put_in_order.ensures.sorted;
  paths = c.in_ok-paths.ensures.paths;
  decls = c.in_ok-paths.ensures.decls;
  groups = subst (λ found. AreGroups found c.in_ok-groups.groups) c.as_slice-2.ensures.value c.in_ok-groups.ensures;
  root = subst (λ found. part found c.group_of-root.result ≡ owned_by found None) c.as_slice.ensures.value c.group_of-root.ensures;
  items = refl;
  names = refl;
  problems = refl;
}
