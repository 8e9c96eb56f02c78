-- What is answered of thin sources.
use Rattle.std.specs.Prelude.{ℕ, ◌+◌, Bool, true, false, not, ◌&&◌, ◌||◌, ◌==◌, nat_le, nat_lt, if◌then◌else◌, List, [], ◌∷◌, ◌++◌, length, codes, Option, Some, None, slice_get}
use Rattle.std.specs.List.{list_any}
use Rattle.std.specs.Str.{bytes_eq}
use Rattle.pc_terms.specs.declared.problems.Span.{Span}
use Rattle.pc_terms.specs.declared.symbols.SymKind.{SymKind}
use Rattle.pc_terms.specs.declared.symbols.SymKind.TheVariants as sym_kind
use Rattle.pc_terms.specs.declared.symbols.SymStep.{SymStep}
use Rattle.pc_terms.specs.declared.symbols.SymPath.{SymPath}
use Rattle.pc_terms.specs.declared.types.Ty.{Ty}
use Rattle.pc_terms.specs.declared.types.Ty.TheVariants as ty
use Rattle.pc_terms.specs.declared.tree_kinds.TreeKind.{TreeKind}
use Rattle.pc_terms.specs.declared.tree_kinds.TreeKind.TheVariants as tree_kind
use Rattle.ask_history.specs.Engine.{asked_file}
use Rattle.ask_history.specs.Sources.{Sources, is_loaded, text_of}
use Rattle.ask_history.specs.declared.calls.Call.{Call}
use Rattle.ask_history.specs.declared.calls.Call.TheVariants.{Reload, Remove, TypeAt}
use Rattle.ask_history.specs.declared.answers.TreeInfo.{TreeInfo}
use Rattle.ask_history.specs.declared.answers.Answer.{Answer}
use Rattle.ask_history.specs.declared.answers.Answer.TheVariants as answer
use Rattle.compiler_loop.specs.declared.thin.reading.ValType.{ValType}
use Rattle.compiler_loop.specs.declared.thin.reading.ValType.TheVariants as val_type
use Rattle.compiler_loop.specs.declared.thin.reading.ThinVal.{ThinVal}
use Rattle.compiler_loop.specs.declared.thin.reading.ThinObject.{ThinObject}
use Rattle.compiler_loop.specs.declared.thin.reading.ThinUnit.{ThinUnit}
use Rattle.compiler_loop.specs.declared.thin.reading.ThinUnit.TheVariants.{Empty, Object, Other}
use Rattle.compiler_loop.specs.declared.thin.locating.Which.{Which}
use Rattle.compiler_loop.specs.declared.thin.locating.Which.TheVariants as which
use Rattle.compiler_loop.specs.declared.thin.locating.ThinTree.{ThinTree}
use Rattle.compiler_loop.specs.Thin.{Bytes, unit_of}

-- ---- the tree at an offset

abbrev pub span_from : ℕ → ℕ → Span
span_from start end = record { start = start; end = end }

abbrev pub thin_tree : Which → ℕ → Span → ThinTree
thin_tree at depth span = record { which = at; depth = depth; span = span }

-- the trees of the vals from this one on, each val with its right side below it
abbrev pub val_trees : ℕ → List ThinVal → List ThinTree
val_trees n [] = []
val_trees n (v ∷ vals) =
    thin_tree (which.Val n) 2 (span_from v.start v.right.end) ∷ thin_tree (which.Right n) 3 v.right ∷ val_trees (n + 1) vals

-- all trees of a unit of this length but the unit's own
abbrev pub trees : ℕ → ThinUnit → List ThinTree
trees len Empty = []
trees len Other = []
trees len (Object object) = thin_tree which.Object 1 (span_from 0 len) ∷ val_trees 0 object.vals

abbrev pub encloses : ℕ → ThinTree → Bool
encloses offset p = nat_le p.span.start offset && nat_le offset p.span.end

-- a later start, else an earlier end, else a greater depth
abbrev pub is_better : ThinTree → ThinTree → Bool
is_better p best =
    nat_lt best.span.start p.span.start
    || ((p.span.start == best.span.start) && (nat_lt p.span.end best.span.end || ((p.span.end == best.span.end) && nat_lt best.depth p.depth)))

abbrev pub better : ℕ → ThinTree → ThinTree → ThinTree
better offset best p = if encloses offset p && is_better p best then p else best

abbrev pub best_of : ℕ → ThinTree → List ThinTree → ThinTree
best_of offset best [] = best
best_of offset best (p ∷ ps) = best_of offset (better offset best p) ps

-- Of the trees that enclose the offset: the one that starts last, of these the shortest, of these the deepest.
abbrev pub located : ℕ → ℕ → ThinUnit → ThinTree
located len offset unit = best_of offset (thin_tree which.Unit 0 (span_from 0 len)) (trees len unit)

-- ---- what is found of a tree

abbrev pub step : SymKind → Bytes → SymStep
step kind name = record { kind = kind; name = name; ordinal = 0 }

abbrev pub scala_class : Bytes → Ty
scala_class name = ty.Class (record { steps = step sym_kind.Package (codes "scala") ∷ step sym_kind.Class name ∷ [] }) []

abbrev pub type_of_val : ValType → Ty
type_of_val val_type.Int = scala_class (codes "Int")
type_of_val val_type.String = scala_class (codes "String")

abbrev pub object_symbol : Bytes → SymPath
object_symbol name = record { steps = step sym_kind.Object name ∷ [] }

abbrev pub val_symbol : Bytes → Bytes → SymPath
val_symbol object name = record { steps = step sym_kind.Object object ∷ step sym_kind.Val name ∷ [] }

abbrev pub tree_info : TreeKind → Span → Option Ty → Option SymPath → TreeInfo
tree_info kind span type symbol = record { kind = kind; span = span; ty = type; sym = symbol }

abbrev pub bare_info : TreeKind → Span → TreeInfo
bare_info kind span = tree_info kind span None None

-- a val has the type of its right side, and its own symbol
abbrev pub val_info : Bytes → Span → Option ThinVal → TreeInfo
val_info object span None = bare_info tree_kind.ValDef span
val_info object span (Some v) = tree_info tree_kind.ValDef span (Some (type_of_val v.of)) (Some (val_symbol object v.name))

-- a name has the symbol of its val; a number or a string has none
abbrev pub right_symbol_info : Bytes → Span → ValType → Option Bytes → TreeInfo
right_symbol_info object span of None = tree_info tree_kind.Literal span (Some (type_of_val of)) None
right_symbol_info object span of (Some name) = tree_info tree_kind.Ident span (Some (type_of_val of)) (Some (val_symbol object name))

abbrev pub right_info : Bytes → Span → Option ThinVal → TreeInfo
right_info object span None = bare_info tree_kind.Literal span
right_info object span (Some v) = right_symbol_info object span v.of v.refers

abbrev pub info_in_object : ThinObject → Span → Which → TreeInfo
info_in_object object span which.Unit = bare_info tree_kind.Unit span
info_in_object object span which.Object = tree_info tree_kind.ObjectDef span None (Some (object_symbol object.name))
info_in_object object span (which.Val n) = val_info object.name span (slice_get object.vals n)
info_in_object object span (which.Right n) = right_info object.name span (slice_get object.vals n)

abbrev pub info_at : ThinUnit → ThinTree → TreeInfo
info_at Empty p = bare_info tree_kind.Unit p.span
info_at Other p = bare_info tree_kind.Unit p.span
info_at (Object object) p = info_in_object object p.span p.which

-- ---- answers

-- The texts are thin, and no object has the name of an earlier one or one of these.
abbrev pub are_thin : List Bytes → List ThinUnit → Bool
are_thin seen [] = true
are_thin seen (Empty ∷ units) = are_thin seen units
are_thin seen (Object object ∷ units) = not (list_any (bytes_eq object.name) seen) && are_thin (seen ++ object.name ∷ []) units
are_thin seen (Other ∷ units) = false

abbrev pub units_of : Sources → List ThinUnit
units_of [] = []
units_of (file ∷ files) = unit_of file.1 ∷ units_of files

abbrev pub tree_answer : Sources → ℕ → Option Bytes → Answer
tree_answer sources offset None = answer.NoUnit
tree_answer sources offset (Some text) =
    if are_thin [] (units_of sources)
    then (if nat_lt (length text) offset then answer.NoTree
    else answer.Tree (info_at (unit_of text) (located (length text) offset (unit_of text))))
    else answer.Unread

abbrev pub unread : Sources → Bytes → Answer
unread sources file = if is_loaded sources file then answer.Unread else answer.NoUnit

-- The answer of an ask: the tree at an offset where the sources are thin.
abbrev pub thin_answer : Sources → Call → Answer
thin_answer sources (TypeAt file offset) = tree_answer sources offset (text_of sources file)
thin_answer sources (Reload pairs) = answer.NoUnit
thin_answer sources (Remove names) = answer.NoUnit
thin_answer sources call = unread sources (asked_file call)
