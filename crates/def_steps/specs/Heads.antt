-- Values, methods and aliases: their heads, and their trees.
use Rattle.std.specs.Prelude.{ℕ, Bool, true, false, ◌&&◌, if◌then◌else◌, [], Option, None}
use Rattle.pc_terms.specs.declared.tree_kinds.TreeKind.{TreeKind}
use Rattle.pc_terms.specs.declared.tree_kinds.TreeKind.TheVariants as kind
use Rattle.positioned_trees.specs.declared.details.Detail.TheVariants as detail
use Rattle.positioned_trees.specs.declared.details.Name.{Name}
use Rattle.positioned_trees.specs.declared.details.RightSide.{RightSide}
use Rattle.positioned_trees.specs.declared.details.RightSide.TheVariants as right_side
use Rattle.scan_tokens.specs.declared.tokens.Newline.{Newline}
use Rattle.source_grammar.specs.Lexemes.{Lexeme}
use Rattle.source_grammar.specs.Newlines.{is_near}
use Rattle.parse_parts.specs.Built.{no_kids, joined, alone, node}
use Rattle.parse_parts.specs.declared.built.Tall.{Tall}
use Rattle.parse_parts.specs.declared.states.State.{State as TypeState}
use Rattle.parse_parts.specs.Reading.{begun as type_begun}
use Rattle.parse_parts.specs.Steps as types
use Rattle.parse_parts.specs.Steps.{from_to, tail_end}
use Rattle.parse_patterns.specs.Steps.{is_no}
use Rattle.tree_lower.specs.Lowering.{detailed}
use Rattle.expr_tails.specs.declared.items.Braces.{Braces}
use Rattle.expr_tails.specs.declared.items.Built.{Built}
use Rattle.expr_tails.specs.declared.items.Inside.{Inside}
use Rattle.expr_tails.specs.declared.items.Inside.TheVariants as inside
use Rattle.expr_tails.specs.declared.tails.Ready.{Ready}
use Rattle.expr_tails.specs.declared.states.Limit.TheVariants as limit
use Rattle.expr_tails.specs.declared.symbols.Symbol.{Symbol}
use Rattle.expr_tails.specs.declared.symbols.Symbol.TheVariants as symbol
use Rattle.expr_steps.specs.Reading.{begun}
use Rattle.expr_steps.specs.Steps.{type_symbol, type_on, name_of}
use Rattle.expr_tails.specs.Types.{is_type, type_of}
use Rattle.def_steps.specs.declared.states.Found.{Found}
use Rattle.def_steps.specs.declared.states.Method.{Method}
use Rattle.def_steps.specs.declared.states.Named.{Named}
use Rattle.def_steps.specs.declared.states.ParamTail.TheVariants as param_tail
use Rattle.def_steps.specs.declared.states.Tail.TheVariants as tail
use Rattle.def_steps.specs.declared.states.State.{State}
use Rattle.def_steps.specs.declared.states.TypeParamTail.TheVariants as type_tail
use Rattle.def_steps.specs.declared.states.Value.{Value}
use Rattle.def_steps.specs.Modifiers.{state}

abbrev pub named_at : ℕ → Name → Named
named_at start name = record { start = start; name = name; kids = no_kids; has_type = false }

abbrev pub with_type : Named → TypeState → Named
with_type n ty = record n { kids = joined n.kids (type_of ty); has_type = true }

-- ---- values

abbrev pub at_value : Found → Bool → ℕ → Symbol → Lexeme → Option State
at_value found is_var start symbol.Id x =
    state found (tail.AtValueName (record { is_var = is_var; named = named_at start (name_of x) }))
at_value found is_var start _ x = None

abbrev pub at_value_name : Found → Value → Symbol → Option State
at_value_name found v symbol.Colon = state found (tail.InValueType v type_begun)
at_value_name found v symbol.Equals = state found (tail.InValue v (begun limit.Expr))
at_value_name found v _ = None

abbrev pub is_equals : Symbol → Bool
is_equals symbol.Equals = true
is_equals _ = false

abbrev pub goes_on : TypeState → Lexeme → Bool
goes_on ty x = types.admits ty (type_symbol x)

abbrev pub typed_value : Found → Value → TypeState → Option State
typed_value found v ty = state found (tail.InValue (record v { named = with_type v.named ty }) (begun limit.Expr))

abbrev pub in_value_type : Found → Value → TypeState → Symbol → Lexeme → Option State
in_value_type found v ty s x =
    if goes_on ty x then state found (tail.InValueType v (type_on ty x))
    else (if is_type ty && is_equals s then typed_value found v ty else None)

abbrev pub kind_of : Found → Bool → TreeKind
kind_of found true = kind.VarDef
kind_of found false = if found.is_lazy then kind.LazyDef else kind.ValDef

-- the tree of a value with its right side
abbrev pub value_at : Found → Value → Ready → Built
value_at found v right = record {
  tall = detailed
      (detail.Value (record { modifiers = found.modifiers; has_type = v.named.has_type; has_right_side = true }))
      (node (kind_of found v.is_var) v.named.name.text v.named.name.span (from_to v.named.start right.operand.span.end)
      (joined v.named.kids right.operand.tall));
  free = right.free;
}

-- ---- aliases

-- the name stands in the line of `type`
abbrev pub at_type : Found → ℕ → Symbol → Lexeme → Option State
at_type found start symbol.Id x = if is_no x.place.before then state found (tail.AtTypeName start (name_of x)) else None
at_type found start _ x = None

abbrev pub at_type_name : Found → ℕ → Name → Symbol → Option State
at_type_name found start name symbol.Equals = state found (tail.InAlias start name type_begun)
at_type_name found start name _ = None

abbrev pub in_alias : Found → ℕ → Name → TypeState → Lexeme → Option State
in_alias found start name ty x = if goes_on ty x then state found (tail.InAlias start name (type_on ty x)) else None

abbrev pub alias_at : Found → ℕ → Name → TypeState → Built
alias_at found start name ty = record {
  tall = detailed (detail.Alias found.modifiers)
      (node kind.AliasDef name.text name.span (from_to start (tail_end ty.tail)) (alone (type_of ty)));
  free = [];
}

-- ---- methods

abbrev pub method_named : ℕ → Name → Method
method_named start name = record { named = named_at start name; type_params = 0; param_lists = []; is_fresh = true }

abbrev pub at_def : Found → ℕ → Symbol → Lexeme → Option State
at_def found start symbol.Id x = state found (tail.AtMethod (method_named start (name_of x)))
at_def found start _ x = None

abbrev pub no_longer_fresh : Method → Method
no_longer_fresh m = record m { is_fresh = false }

-- after the name, the type parameters or a list of parameters
abbrev pub at_method : Found → Method → Symbol → Newline → Option State
at_method found m symbol.OpenSquare before =
    if m.is_fresh then state found (tail.InTypeParams (no_longer_fresh m) type_tail.Begin) else None
at_method found m symbol.OpenRound before =
    if is_near before then state found (tail.InParams (no_longer_fresh m) 0 (param_tail.Begin true)) else None
at_method found m symbol.Colon before = state found (tail.InResult m type_begun)
at_method found m symbol.Equals before = state found (tail.InMethod m (begun limit.Expr))
at_method found m _ before = None

abbrev pub typed_method : Found → Method → TypeState → Option State
typed_method found m ty =
    state found (tail.InMethod (record m { named = with_type m.named ty; is_fresh = false }) (begun limit.Expr))

abbrev pub in_result : Found → Method → TypeState → Symbol → Lexeme → Option State
in_result found m ty s x =
    if goes_on ty x then state found (tail.InResult m (type_on ty x))
    else (if is_type ty && is_equals s then typed_method found m ty else None)

-- the tree of a method whose kids are all there
abbrev pub method_node : Found → Method → ℕ → RightSide → Option Tall
method_node found m end side =
    detailed (detail.Method (record {
      modifiers = found.modifiers;
      type_params = m.type_params;
      param_lists = m.param_lists;
      has_type = m.named.has_type;
      right_side = side;
    })) (node kind.DefDef m.named.name.text m.named.name.span (from_to m.named.start end) m.named.kids)

abbrev pub method_tree : Found → Method → ℕ → Option Tall → RightSide → Option Tall
method_tree found m end right side =
    method_node found (record m { named = record m.named { kids = joined m.named.kids right } }) end side

abbrev pub method_at : Found → Method → Ready → Built
method_at found m right = record {
  tall = method_tree found m right.operand.span.end right.operand.tall right_side.Value;
  free = right.free;
}

abbrev pub procedure_of : Found → Method → ℕ → Inside → Option State
procedure_of found m end (inside.Block block) = state found (tail.AtProcedure (record {
  tall = method_tree found m end block.tall right_side.Procedure;
  free = block.free;
}))
procedure_of found m end _ = None

-- a method with a block after its head
abbrev pub procedure : Found → Method → Braces → Option State
procedure found m b = if is_near b.before then procedure_of found m b.span.end b.inside else None
