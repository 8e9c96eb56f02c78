-- Type parameters and parameters of a method.
use Rattle.std.specs.Prelude.{ℕ, ◌+◌, min, Bool, true, false, ◌&&◌, ◌||◌, if◌then◌else◌}
use Rattle.std.specs.Prelude.{[], ◌∷◌, ◌++◌, Option, Some, None, codes}
use Rattle.std.specs.Str.{bytes_eq}
use Rattle.pc_terms.specs.declared.tree_kinds.TreeKind.TheVariants as kind
use Rattle.positioned_trees.specs.declared.details.Detail.{Detail}
use Rattle.positioned_trees.specs.declared.details.Detail.TheVariants as detail
use Rattle.positioned_trees.specs.declared.details.Name.{Name}
use Rattle.positioned_trees.specs.declared.details.ParamKeyword.TheVariants as keyword
use Rattle.positioned_trees.specs.declared.details.Variance.{Variance}
use Rattle.positioned_trees.specs.declared.details.Variance.TheVariants as variance
use Rattle.positioned_trees.specs.Trees.{max_number}
use Rattle.scan_tokens.specs.declared.tokens.TokenKind.{TokenKind}
use Rattle.scan_tokens.specs.declared.tokens.TokenKind.TheVariants as token
use Rattle.source_grammar.specs.Lexemes.{Lexeme}
use Rattle.source_grammar.specs.Placeholders.{no_modifiers}
use Rattle.parse_parts.specs.Built.{no_kids, joined, alone, node}
use Rattle.parse_parts.specs.declared.built.Tall.{Tall}
use Rattle.parse_parts.specs.declared.states.State.{State as TypeState}
use Rattle.parse_parts.specs.Reading.{begun as type_begun}
use Rattle.parse_parts.specs.Steps.{from_to, tail_end}
use Rattle.tree_lower.specs.Lowering.{detailed}
use Rattle.expr_tails.specs.declared.symbols.Symbol.{Symbol}
use Rattle.expr_tails.specs.declared.symbols.Symbol.TheVariants as symbol
use Rattle.expr_steps.specs.Steps.{type_on, name_of}
use Rattle.expr_tails.specs.Types.{is_type, type_of}
use Rattle.def_steps.specs.declared.states.Found.{Found}
use Rattle.def_steps.specs.declared.states.Method.{Method}
use Rattle.def_steps.specs.declared.states.Named.{Named}
use Rattle.def_steps.specs.declared.states.ParamTail.{ParamTail}
use Rattle.def_steps.specs.declared.states.ParamTail.TheVariants as param_tail
use Rattle.def_steps.specs.declared.states.Tail.TheVariants as tail
use Rattle.def_steps.specs.declared.states.State.{State}
use Rattle.def_steps.specs.declared.states.TypeParam.{TypeParam}
use Rattle.def_steps.specs.declared.states.TypeParamTail.{TypeParamTail}
use Rattle.def_steps.specs.declared.states.TypeParamTail.TheVariants as type_tail
use Rattle.def_steps.specs.Heads.{goes_on}
use Rattle.def_steps.specs.Modifiers.{state}

abbrev pub with_kid : Named → Option Tall → Named
with_kid n tall = record n { kids = joined n.kids tall }

-- One more of what stands in a list. No source has as many as do not fit.
abbrev pub one_more : ℕ → ℕ
one_more count = min (count + 1) max_number

-- ---- type parameters

abbrev pub is_plain : TokenKind → Bool
is_plain token.BackId = false
is_plain _ = true

abbrev pub is_plus : Lexeme → Bool
is_plus x = is_plain x.kind && bytes_eq x.word (codes "+")

abbrev pub is_minus : Lexeme → Bool
is_minus x = is_plain x.kind && bytes_eq x.word (codes "-")

abbrev pub variance_of : Lexeme → Option Variance
variance_of x =
    if is_plus x then Some variance.Covariant
    else (if is_minus x then Some variance.Contravariant else None)

abbrev pub param_named : ℕ → Variance → Name → TypeParam
param_named start v name = record {
  start = start;
  end = name.span.end;
  variance = v;
  name = name;
  kids = no_kids;
  has_lower = false;
  has_upper = false;
}

abbrev pub type_param_tree : TypeParam → Option Tall
type_param_tree p =
    detailed (detail.TypeParam (record { variance = p.variance; has_lower = p.has_lower; has_upper = p.has_upper }))
    (node kind.TypeParam p.name.text p.name.span (from_to p.start p.end) p.kids)

abbrev pub with_type_param : Method → TypeParam → Method
with_type_param m p = record m { named = with_kid m.named (type_param_tree p); type_params = one_more m.type_params }

abbrev pub in_list : Found → Method → TypeParamTail → Option State
in_list found m at = state found (tail.InTypeParams m at)

abbrev pub bounded : TypeParam → Bool → Bool → TypeParam
bounded p lower upper = record p { has_lower = lower; has_upper = upper }

abbrev pub in_bound_of : Found → Method → TypeParam → Option State
in_bound_of found m p = in_list found m (type_tail.InBound p type_begun)

abbrev pub after_lower : Found → Method → TypeParam → Option State
after_lower found m p = if p.has_lower || p.has_upper then None else in_bound_of found m (bounded p true false)

abbrev pub after_upper : Found → Method → TypeParam → Option State
after_upper found m p = if p.has_upper then None else in_bound_of found m (bounded p p.has_lower true)

-- after a type parameter that is whole
abbrev pub after_param : Found → Method → TypeParam → Symbol → Option State
after_param found m p symbol.LowerBound = after_lower found m p
after_param found m p symbol.UpperBound = after_upper found m p
after_param found m p symbol.Comma = in_list found (with_type_param m p) type_tail.Begin
after_param found m p symbol.CloseSquare = state found (tail.AtMethod (with_type_param m p))
after_param found m p _ = None

abbrev pub with_bound : TypeParam → TypeState → TypeParam
with_bound p ty = record p { end = tail_end ty.tail; kids = joined p.kids (type_of ty) }

abbrev pub bound_on : Found → Method → TypeParam → TypeState → Lexeme → Option State
bound_on found m p ty x = in_list found m (type_tail.InBound p (type_on ty x))

abbrev pub in_bound : Found → Method → TypeParam → TypeState → Symbol → Lexeme → Option State
in_bound found m p ty s x =
    if goes_on ty x then bound_on found m p ty x
    else (if is_type ty then after_param found m (with_bound p ty) s else None)

abbrev pub begun_by : Found → Method → Option Variance → Name → Option State
begun_by found m (Some v) name = in_list found m (type_tail.AtSign name v)
begun_by found m None name = in_list found m (type_tail.AtName (param_named name.span.start variance.Invariant name))

abbrev pub at_type_param : Found → Method → Symbol → Lexeme → Option State
at_type_param found m symbol.Id x = begun_by found m (variance_of x) (name_of x)
at_type_param found m _ x = None

-- a sign is the variance of the name after it, or a name itself
abbrev pub after_sign : Found → Method → Name → Variance → Symbol → Lexeme → Option State
after_sign found m sign v symbol.Id x = in_list found m (type_tail.AtName (param_named sign.span.start v (name_of x)))
after_sign found m sign v s x = after_param found m (param_named sign.span.start variance.Invariant sign) s

abbrev pub in_type_params : Found → Method → TypeParamTail → Symbol → Lexeme → Option State
in_type_params found m type_tail.Begin s x = at_type_param found m s x
in_type_params found m (type_tail.AtSign sign v) s x = after_sign found m sign v s x
in_type_params found m (type_tail.AtName p) s x = after_param found m p s
in_type_params found m (type_tail.InBound p ty) s x = in_bound found m p ty s x

-- ---- parameters

abbrev pub param_detail : Bool → Detail
param_detail repeated = detail.Param (record {
  modifiers = no_modifiers;
  keyword = keyword.Missing;
  binds = true;
  repeated = repeated;
})

abbrev pub param_tree : Name → Option Tall → ℕ → Bool → Option Tall
param_tree name ty end repeated =
    detailed (param_detail repeated) (node kind.Param name.text name.span (from_to name.span.start end) (alone ty))

abbrev pub typed_param : Name → TypeState → Option Tall
typed_param name ty = param_tree name (type_of ty) (tail_end ty.tail) false

abbrev pub with_param : Method → Option Tall → Method
with_param m tall = record m { named = with_kid m.named tall }

abbrev pub in_params_at : Found → Method → ℕ → ParamTail → Option State
in_params_at found m count at = state found (tail.InParams m count at)

abbrev pub list_closed : Found → Method → ℕ → Option State
list_closed found m count = state found (tail.AtMethod (record m { param_lists = m.param_lists ++ count ∷ [] }))

abbrev pub is_star : Lexeme → Bool
is_star x = is_plain x.kind && bytes_eq x.word (codes "*")

abbrev pub starred : Found → Method → ℕ → Name → TypeState → Lexeme → Option State
starred found m count name ty x =
    if is_star x then in_params_at found m count (param_tail.AtStar name (type_of ty) x.place.span.end) else None

-- after the type of a parameter
abbrev pub after_type : Found → Method → ℕ → Name → TypeState → Symbol → Lexeme → Option State
after_type found m count name ty symbol.Id x = starred found m count name ty x
after_type found m count name ty symbol.Comma x =
    in_params_at found (with_param m (typed_param name ty)) (one_more count) (param_tail.Begin false)
after_type found m count name ty symbol.CloseRound x =
    list_closed found (with_param m (typed_param name ty)) (one_more count)
after_type found m count name ty _ x = None

abbrev pub in_param_type : Found → Method → ℕ → Name → TypeState → Symbol → Lexeme → Option State
in_param_type found m count name ty s x =
    if goes_on ty x then in_params_at found m count (param_tail.InType name (type_on ty x))
    else (if is_type ty then after_type found m count name ty s x else None)

abbrev pub at_param : Found → Method → ℕ → Bool → Symbol → Lexeme → Option State
at_param found m count may_end symbol.Id x = in_params_at found m count (param_tail.AtName (name_of x))
at_param found m count may_end symbol.CloseRound x = if may_end then list_closed found m count else None
at_param found m count may_end _ x = None

abbrev pub after_name : Found → Method → ℕ → Name → Symbol → Option State
after_name found m count name symbol.Colon = in_params_at found m count (param_tail.InType name type_begun)
after_name found m count name _ = None

abbrev pub after_star : Found → Method → ℕ → Option Tall → Symbol → Option State
after_star found m count param symbol.CloseRound = list_closed found (with_param m param) (one_more count)
after_star found m count param _ = None

abbrev pub in_params : Found → Method → ℕ → ParamTail → Symbol → Lexeme → Option State
in_params found m count (param_tail.Begin may_end) s x = at_param found m count may_end s x
in_params found m count (param_tail.AtName name) s x = after_name found m count name s
in_params found m count (param_tail.InType name ty) s x = in_param_type found m count name ty s x
in_params found m count (param_tail.AtStar name ty end) s x = after_star found m count (param_tree name ty end true) s
