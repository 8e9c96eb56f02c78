-- What a reader of definitions makes of one item more.
use Rattle.std.specs.Prelude.{Bool, true, false, [], Option, Some, None}
use Rattle.source_grammar.specs.Lexemes.{Lexeme}
use Rattle.reading_machines.specs.Machines.{Machine}
use Rattle.expr_tails.specs.declared.items.Braces.{Braces}
use Rattle.expr_tails.specs.declared.items.Built.{Built}
use Rattle.expr_tails.specs.declared.states.State.{State as ExprState}
use Rattle.expr_tails.specs.declared.symbols.Symbol.{Symbol}
use Rattle.expr_steps.specs.Braces.{step_braces as expr_braces}
use Rattle.expr_tails.specs.Ending.{expr_at}
use Rattle.expr_steps.specs.Reading.{Item, OneToken, Pair, is_read}
use Rattle.expr_steps.specs.Steps.{step as expr_step}
use Rattle.expr_tails.specs.Symbols.{symbol_of}
use Rattle.expr_tails.specs.Types.{is_type}
use Rattle.def_steps.specs.declared.states.Found.{Found}
use Rattle.def_steps.specs.declared.states.Gap.TheVariants as gap
use Rattle.def_steps.specs.declared.states.Method.{Method}
use Rattle.def_steps.specs.declared.states.Tail.{Tail}
use Rattle.def_steps.specs.declared.states.Tail.TheVariants as tail
use Rattle.def_steps.specs.declared.states.State.{State}
use Rattle.def_steps.specs.declared.states.Value.{Value}
use Rattle.def_steps.specs.Heads.{at_value, at_value_name, in_value_type, value_at, at_def, at_method, in_result}
use Rattle.def_steps.specs.Heads.{method_at, procedure, at_type, at_type_name, in_alias, alias_at}
use Rattle.def_steps.specs.Modifiers.{nothing_found, state, at_mods, at_annotation, in_arguments}
use Rattle.def_steps.specs.Modifiers.{at_access, at_access_open, at_access_name, at_path}
use Rattle.def_steps.specs.Params.{in_type_params, in_params}

abbrev pub begun : State
begun = record { found = nothing_found; tail = tail.AtMods gap.Any }

abbrev pub in_value : Found → Value → Option ExprState → Option State
in_value found v None = None
in_value found v (Some right) = state found (tail.InValue v right)

abbrev pub in_method : Found → Method → Option ExprState → Option State
in_method found m None = None
in_method found m (Some right) = state found (tail.InMethod m right)

abbrev pub stepped_at : Tail → Found → Symbol → Lexeme → Option State
stepped_at (tail.AtMods g) found s x = at_mods found g s x.place.span.start x.place.before
stepped_at tail.AtAt found s x = at_path found s
stepped_at tail.AtAnnotationDot found s x = at_path found s
stepped_at tail.AtAnnotation found s x = at_annotation found s x.place.span.start x.place.before
stepped_at (tail.InArguments bs) found s x = in_arguments found bs s
stepped_at (tail.AtAccess a) found s x = at_access found a s x.place.span.start x.place.before
stepped_at (tail.AtAccessOpen a) found s x = at_access_open found a s
stepped_at (tail.AtAccessName a) found s x = at_access_name found a s
stepped_at (tail.AtValue is_var start) found s x = at_value found is_var start s x
stepped_at (tail.AtValueName v) found s x = at_value_name found v s
stepped_at (tail.InValueType v ty) found s x = in_value_type found v ty s x
stepped_at (tail.InValue v right) found s x = in_value found v (expr_step right x)
stepped_at (tail.AtDef start) found s x = at_def found start s x
stepped_at (tail.AtMethod m) found s x = at_method found m s x.place.before
stepped_at (tail.InTypeParams m at) found s x = in_type_params found m at s x
stepped_at (tail.InParams m count at) found s x = in_params found m count at s x
stepped_at (tail.InResult m ty) found s x = in_result found m ty s x
stepped_at (tail.InMethod m right) found s x = in_method found m (expr_step right x)
stepped_at (tail.AtType start) found s x = at_type found start s x
stepped_at (tail.AtTypeName start name) found s x = at_type_name found start name s
stepped_at (tail.InAlias start name ty) found s x = in_alias found start name ty x
stepped_at (tail.AtProcedure built) found s x = None

-- the state after a token, if it can stand next
unfoldable pub step : State → Lexeme → Option State
step d x = stepped_at d.tail d.found (symbol_of x.kind x.word) x

abbrev pub braces_at : Tail → Found → Braces → Option State
braces_at (tail.InValue v right) found b = in_value found v (expr_braces right b)
braces_at (tail.InMethod m right) found b = in_method found m (expr_braces right b)
braces_at (tail.AtMethod m) found b = procedure found m b
braces_at (tail.InArguments bs) found b = state found (tail.InArguments bs)
braces_at _ found b = None

-- the state after a pair of braces, if it can stand next
abbrev pub step_braces : State → Braces → Option State
step_braces d b = braces_at d.tail d.found b

abbrev pub is_definition_at : Tail → Bool
is_definition_at (tail.InValue v right) = is_read right
is_definition_at (tail.InMethod m right) = is_read right
is_definition_at (tail.InAlias start name ty) = is_type ty
is_definition_at (tail.AtProcedure built) = true
is_definition_at _ = false

abbrev pub is_definition : State → Bool
is_definition d = is_definition_at d.tail

abbrev pub nothing_built : Built
nothing_built = record { tall = None; free = [] }

abbrev pub definition_of : Tail → Found → Built
definition_of (tail.InValue v right) found = value_at found v (expr_at right.context)
definition_of (tail.InMethod m right) found = method_at found m (expr_at right.context)
definition_of (tail.InAlias start name ty) found = alias_at found start name ty
definition_of (tail.AtProcedure built) found = built
definition_of _ found = nothing_built

-- the definition that was read
abbrev pub definition_at : State → Built
definition_at d = definition_of d.tail d.found

abbrev pub stepped : State → Item → Option State
stepped d (OneToken x) = step d x
stepped d (Pair b) = step_braces d b

abbrev pub reader : Machine State Item
reader = record { start = begun; step = stepped; whole = is_definition }
