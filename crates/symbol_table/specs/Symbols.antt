-- What a tree defines, by its kind and by the kind of tree that it stands in directly: the symbol's kind, its name space and
-- its flags.
use Rattle.std.specs.Prelude.{Bool, true, false, not, ◌&&◌, ◌||◌, if◌then◌else◌}
use Rattle.base_types.specs.declared.flags.Flags.{Flags}
use Rattle.pc_terms.specs.declared.symbols.SymKind.{SymKind}
use Rattle.pc_terms.specs.declared.symbols.SymKind.TheVariants as symbol
use Rattle.pc_terms.specs.declared.tree_kinds.TreeKind.{TreeKind}
use Rattle.pc_terms.specs.declared.tree_kinds.TreeKind.TheVariants as kind
use Rattle.positioned_trees.specs.declared.details.Access.{Access}
use Rattle.positioned_trees.specs.declared.details.Access.TheVariants as access
use Rattle.positioned_trees.specs.declared.details.Detail.{Detail}
use Rattle.positioned_trees.specs.declared.details.Detail.TheVariants as detail
use Rattle.positioned_trees.specs.declared.details.Modifiers.{Modifiers}
use Rattle.positioned_trees.specs.declared.details.ParamKeyword.{ParamKeyword}
use Rattle.positioned_trees.specs.declared.details.ParamKeyword.TheVariants as keyword
use Rattle.positioned_trees.specs.declared.details.RightSide.{RightSide}
use Rattle.positioned_trees.specs.declared.details.RightSide.TheVariants as right_side
use Rattle.positioned_trees.specs.declared.trees.Tree.{Tree}
use Rattle.positioned_trees.specs.declared.trees.Tree.TheViews.{out-Tree}
use Rattle.symbol_table.specs.declared.name_spaces.NameSpace.{NameSpace}
use Rattle.symbol_table.specs.declared.name_spaces.NameSpace.TheVariants as space

-- ---- which symbol

-- Classes, traits and objects (SLS 5) stand in a source and in an object. Where nothing is defined that others can see, the
-- kind is Local.
abbrev pub template_symbol : TreeKind → SymKind
template_symbol kind.ClassDef = symbol.Class
template_symbol kind.TraitDef = symbol.Trait
template_symbol kind.ObjectDef = symbol.Object
template_symbol _ = symbol.Local

-- the other members of a template (SLS 4)
abbrev pub member_symbol : TreeKind → SymKind
member_symbol kind.ValDef = symbol.Val
member_symbol kind.VarDef = symbol.Var
member_symbol kind.LazyDef = symbol.Lazy
member_symbol kind.DefDef = symbol.Def
member_symbol kind.AliasDef = symbol.Alias
member_symbol _ = symbol.Local

abbrev pub object_symbol : TreeKind → SymKind
object_symbol kind.ClassDef = symbol.Class
object_symbol kind.TraitDef = symbol.Trait
object_symbol kind.ObjectDef = symbol.Object
object_symbol own = member_symbol own

abbrev pub trait_symbol : TreeKind → SymKind
trait_symbol kind.TypeParam = symbol.TypeParam
trait_symbol own = member_symbol own

abbrev pub by_keyword : ParamKeyword → SymKind
by_keyword keyword.Var = symbol.Var
by_keyword _ = symbol.Val

-- a parameter of a class is a val of the class, or a var where it says so (SLS 5.3)
abbrev pub class_param_symbol : Detail → SymKind
class_param_symbol (detail.Param parts) = by_keyword parts.keyword
class_param_symbol _ = symbol.Val

abbrev pub class_symbol : TreeKind → Detail → SymKind
class_symbol kind.Param own = class_param_symbol own
class_symbol kind.TypeParam own = symbol.TypeParam
class_symbol other own = member_symbol other

-- the parameters and type parameters of a method
abbrev pub method_symbol : TreeKind → SymKind
method_symbol kind.Param = symbol.Param
method_symbol kind.TypeParam = symbol.TypeParam
method_symbol _ = symbol.Local

-- what a tree of this kind, with this detail, defines directly in a tree of the first kind
abbrev pub symbol_by : TreeKind → TreeKind → Detail → SymKind
symbol_by kind.Unit own parts = template_symbol own
symbol_by kind.ObjectDef own parts = object_symbol own
symbol_by kind.ClassDef own parts = class_symbol own parts
symbol_by kind.TraitDef own parts = trait_symbol own
symbol_by kind.DefDef own parts = method_symbol own
symbol_by _ own parts = symbol.Local

-- What a tree defines that stands directly in a tree of this kind; Local where it defines nothing that others can see.
abbrev pub symbol_in : TreeKind → Tree → SymKind
symbol_in outer tree = symbol_by outer (out-Tree tree).kind (out-Tree tree).detail

-- ---- tests of kinds

abbrev pub is_local : SymKind → Bool
is_local symbol.Local = true
is_local _ = false

abbrev pub is_def : SymKind → Bool
is_def symbol.Def = true
is_def _ = false

abbrev pub is_package : SymKind → Bool
is_package symbol.Package = true
is_package _ = false

abbrev pub is_class : SymKind → Bool
is_class symbol.Class = true
is_class _ = false

abbrev pub is_object : SymKind → Bool
is_object symbol.Object = true
is_object _ = false

-- a class or a trait (SLS 5.3)
abbrev pub is_class_type : SymKind → Bool
is_class_type symbol.Class = true
is_class_type symbol.Trait = true
is_class_type _ = false

-- what stands for a type: an alias or a type parameter (SLS 4.3, 4.4)
abbrev pub is_named_type : SymKind → Bool
is_named_type symbol.Alias = true
is_named_type symbol.TypeParam = true
is_named_type _ = false

abbrev pub is_class_or_trait : TreeKind → Bool
is_class_or_trait kind.ClassDef = true
is_class_or_trait kind.TraitDef = true
is_class_or_trait _ = false

abbrev pub is_template : TreeKind → Bool
is_template kind.ObjectDef = true
is_template own = is_class_or_trait own

-- a template directly in a class or trait
abbrev pub stands_wrongly : TreeKind → TreeKind → Bool
stands_wrongly outer own = is_class_or_trait outer && is_template own

-- ---- name spaces

-- Terms and types are named apart (SLS 2), and packages take no part in what is told of second definitions.
abbrev pub space_of : SymKind → NameSpace
space_of symbol.Package = space.Packages
space_of kind = if is_class_type kind || is_named_type kind then space.Types else space.Terms

abbrev pub is_packages : NameSpace → Bool
is_packages space.Packages = true
is_packages _ = false

abbrev pub is_terms : NameSpace → Bool
is_terms space.Terms = true
is_terms _ = false

abbrev pub is_types : NameSpace → Bool
is_types space.Types = true
is_types _ = false

abbrev pub is_same_space : NameSpace → NameSpace → Bool
is_same_space space.Packages other = is_packages other
is_same_space space.Terms other = is_terms other
is_same_space space.Types other = is_types other

-- ---- flags

abbrev pub no_modifiers : Modifiers
no_modifiers = record {
  abstract_ = false;
  final_ = false;
  sealed_ = false;
  case_ = false;
  override_ = false;
  access = access.Public;
}

abbrev pub modifiers_of : Detail → Modifiers
modifiers_of (detail.Template template) = template.modifiers
modifiers_of (detail.Value value) = value.modifiers
modifiers_of (detail.Method method) = method.modifiers
modifiers_of (detail.Alias modifiers) = modifiers
modifiers_of (detail.Param param) = param.modifiers
modifiers_of _ = no_modifiers

abbrev pub is_missing : RightSide → Bool
is_missing right_side.Missing = true
is_missing _ = false

-- a declaration: a `val`, `var` or `def` without a right side
abbrev pub is_declaration : Detail → Bool
is_declaration (detail.Value parts) = not parts.has_right_side
is_declaration (detail.Method parts) = is_missing parts.right_side
is_declaration _ = false

abbrev pub is_unmarked : ParamKeyword → Bool
is_unmarked keyword.Missing = true
is_unmarked _ = false

-- a parameter of a class that is no case class, with neither `val` nor `var`; the first detail is that of the tree around
abbrev pub is_hidden_param : Detail → Detail → Bool
is_hidden_param (detail.Template outer) (detail.Param parts) = not outer.modifiers.case_ && is_unmarked parts.keyword
is_hidden_param _ _ = false

abbrev pub is_private : Access → Bool
is_private access.Private = true
is_private _ = false

abbrev pub is_protected : Access → Bool
is_protected access.Protected = true
is_protected _ = false

-- The flags of a definition, in the prelude or not, by the detail of the tree around it and by its own.
abbrev pub flags_in : Bool → Detail → Detail → Flags
flags_in in_prelude outer own = record {
  abstract_ = (modifiers_of own).abstract_ || (is_declaration own && not in_prelude);
  final_ = (modifiers_of own).final_;
  sealed_ = (modifiers_of own).sealed_;
  case_ = (modifiers_of own).case_;
  override_ = (modifiers_of own).override_;
  private_ = is_private (modifiers_of own).access || is_hidden_param outer own;
  protected_ = is_protected (modifiers_of own).access && not (is_hidden_param outer own);
  prelude = in_prelude;
}

-- the flags of what is written nowhere: a package, a synthetic companion and its `apply`
abbrev pub plain_flags : Bool → Flags
plain_flags in_prelude = flags_in in_prelude detail.Plain detail.Plain
