-- All definitions of some sources: the packages that they open, what they write, and what a case class adds (SLS 5.3.2).
use Rattle.std.specs.Prelude.{ℕ, ◌+◌, Bool, true, false, ◌&&◌, ◌==◌, if◌then◌else◌, List, [], ◌∷◌, ◌++◌, codes, map, filter, count_by}
use Rattle.std.specs.List.{flat_map, list_any}
use Rattle.std.specs.Str.{bytes_eq}
use Rattle.base_types.specs.declared.flags.Flags.{Flags}
use Rattle.pc_terms.specs.declared.problems.Span.{Span}
use Rattle.pc_terms.specs.declared.symbols.SymKind.{SymKind}
use Rattle.pc_terms.specs.declared.symbols.SymKind.TheVariants as symbol
use Rattle.pc_terms.specs.declared.symbols.SymPath.{SymPath}
use Rattle.pc_terms.specs.declared.symbols.SymStep.{SymStep}
use Rattle.positioned_trees.specs.declared.details.Detail.{Detail}
use Rattle.positioned_trees.specs.declared.details.Detail.TheVariants as detail
use Rattle.positioned_trees.specs.declared.details.Name.{Name}
use Rattle.positioned_trees.specs.declared.trees.Tree.{Tree}
use Rattle.positioned_trees.specs.declared.trees.Tree.TheViews.{out-Tree}
use Rattle.type_substitution.specs.Substitution.{path_eq}
use Rattle.symbol_table.specs.declared.decls.Decl.{Decl}
use Rattle.symbol_table.specs.declared.name_spaces.NameSpace.{NameSpace}
use Rattle.symbol_table.specs.declared.name_spaces.NameSpace.TheVariants as space
use Rattle.symbol_table.specs.Owners.{path_of, is_same_path, package_names, package_step, defines, owner_of, step_at, may_follow}
use Rattle.symbol_table.specs.Sites.{Kid, Site, all_sites}
use Rattle.symbol_table.specs.Symbols.{is_def, is_class, is_object, space_of, flags_in, plain_flags}

-- a symbol by its owner and its own step, and where it is defined
pub record Definition : Type 0 where
  pub owner : List SymStep
  pub own : SymStep
  pub file : ℕ
  pub node : ℕ
  pub label_span : Span
  pub flags : Flags

abbrev pub path_to : Definition → SymPath
path_to d = path_of (d.owner ++ d.own ∷ [])

abbrev pub decl_of : Definition → Decl
decl_of d = record { path = path_to d; file = d.file; node = d.node; label_span = d.label_span; flags = d.flags }

-- the first source is the prelude
abbrev pub is_prelude : ℕ → Bool
is_prelude file = file == 0

-- ---- what is written

-- the detail of the tree that a tree stands in
abbrev pub detail_around : List Kid → Detail
detail_around [] = detail.Plain
detail_around (parent ∷ outer) = (out-Tree parent.tree).detail

abbrev pub definition_at : List Tree → Site → Definition
definition_at roots site = record {
  owner = owner_of roots site.file site.around;
  own = step_at roots site.file site.kid site.around;
  file = site.file;
  node = (out-Tree site.kid.tree).id;
  label_span = (out-Tree site.kid.tree).label_span;
  flags = flags_in (is_prelude site.file) (detail_around site.around) (out-Tree site.kid.tree).detail;
}

-- what the sources write, in load order and then in the order of the text
abbrev pub written : List Tree → List Definition
written roots = map (definition_at roots) (filter (defines roots) (all_sites roots))

-- ---- packages (SLS 9.2)

-- a name of a package clause, and the id of the clause
pub record Opening : Type 0 where
  pub name : Name
  pub node : ℕ

abbrev pub clause_openings : Tree → List Opening
clause_openings clause = map (λ name. record { name = name; node = (out-Tree clause).id }) (package_names (out-Tree clause).detail)

abbrev pub openings_of : Tree → List Opening
openings_of root = flat_map clause_openings (out-Tree root).kids

-- each name opens a package in the one that the names before it open
abbrev pub opened_in : ℕ → List SymStep → List Opening → List Definition
opened_in file owner [] = []
opened_in file owner (o ∷ os) =
    record { owner = owner; own = package_step o.name; file = file; node = o.node; label_span = o.name.span; flags = plain_flags (is_prelude file) }
    ∷ opened_in file (owner ++ package_step o.name ∷ []) os

abbrev pub opened_behind : ℕ → List Tree → List Definition
opened_behind file [] = []
opened_behind file (root ∷ roots) = opened_in file [] (openings_of root) ++ opened_behind (file + 1) roots

abbrev pub is_known : List SymPath → Definition → Bool
is_known known d = list_any (path_eq (path_to d)) known

-- of several with one path the first, and none whose path is known already
abbrev pub new_among : List SymPath → List Definition → List Definition
new_among known [] = []
new_among known (d ∷ ds) = if is_known known d then new_among known ds else d ∷ new_among (known ++ path_to d ∷ []) ds

-- The packages that the sources open, each where it is opened first.
abbrev pub packages : List Tree → List Definition
packages roots = new_among [] (opened_behind 0 roots)

abbrev pub packages_and_written : List Tree → List Definition
packages_and_written roots = packages roots ++ written roots

-- ---- companions

abbrev pub is_case_class : Definition → Bool
is_case_class d = is_class d.own.kind && d.flags.case_

-- The packages in a package are among its terms; those of the root stand outside the empty package, which has no step either.
abbrev pub names_term : List SymStep → NameSpace → Bool
names_term owner space.Terms = true
names_term owner space.Types = false
names_term [] space.Packages = false
names_term (step ∷ steps) space.Packages = true

abbrev pub is_term_of : List SymStep → List ℕ → Definition → Bool
is_term_of owner name d = is_same_path d.owner owner && bytes_eq d.own.name name && names_term owner (space_of d.own.kind)

-- the terms of the name and owner of a class, in whichever file
abbrev pub namesakes : List Definition → Definition → List Definition
namesakes all class = filter (is_term_of class.owner class.own.name) all

abbrev pub is_empty : {X : Type 0} → List X → Bool
is_empty [] = true
is_empty (x ∷ xs) = false

-- the object that a class has where no other term of its name is defined by its owner; it has no tree but that of the class
abbrev pub synthetic_companion : Definition → Definition
synthetic_companion class = record class {
  own = record { kind = symbol.Object; name = class.own.name; ordinal = 0 };
  flags = plain_flags (is_prelude class.file);
}

-- A class and an object of one name, owner and file are companions, and so are a trait and an object.
abbrev pub is_companion : Definition → Definition → Bool
is_companion class object = is_object object.own.kind && is_same_path object.owner class.owner
    && bytes_eq object.own.name class.own.name && object.file == class.file

abbrev pub has_companion : List Definition → Definition → Bool
has_companion all class = list_any (is_companion class) all

abbrev pub companion_steps : Definition → List SymStep
companion_steps class = class.owner ++ (synthetic_companion class).own ∷ []

-- the name of the method by which a value is applied
abbrev pub apply_name : List ℕ
apply_name = codes "apply"

-- the kinds of the other terms `apply` of the companion of a class
abbrev pub other_applies : List Definition → Definition → List SymKind
other_applies all class = map (λ d. d.own.kind) (filter (is_term_of (companion_steps class) apply_name) all)

-- The method `apply` of the companion of a case class counts after the other ones. It has no definitions below it: its type
-- parameters are those of the class.
abbrev pub synthetic_apply : List Definition → Definition → Definition
synthetic_apply all class = record class {
  owner = companion_steps class;
  own = record { kind = symbol.Def; name = apply_name; ordinal = count_by is_def (other_applies all class) };
  flags = plain_flags (is_prelude class.file);
}

-- a case class has a companion, and so a further `apply`
abbrev pub adds_apply : List Definition → Definition → Bool
adds_apply all class = is_case_class class && has_companion all class

-- where the first other `apply` is no method, the further one is a second definition
abbrev pub admits_apply : List Definition → Definition → Bool
admits_apply all class = may_follow (other_applies all class) symbol.Def

abbrev pub added_companion : List Definition → Definition → List Definition
added_companion all class = if is_case_class class && is_empty (namesakes all class) then synthetic_companion class ∷ [] else []

abbrev pub added_apply : List Definition → Definition → List Definition
added_apply all class = if adds_apply all class && admits_apply all class then synthetic_apply all class ∷ [] else []

-- ---- all

-- without what is added to companions
abbrev pub with_companions : List Tree → List Definition
with_companions roots =
    packages_and_written roots ++ flat_map (added_companion (packages_and_written roots)) (written roots)

-- All definitions of some sources.
abbrev pub definitions : List Tree → List Definition
definitions roots = with_companions roots ++ flat_map (added_apply (with_companions roots)) (written roots)
