-- The parameters of a class, token by token.
use Rattle.std.specs.Prelude.{ℕ, Bool, true, false, ◌&&◌, if◌then◌else◌, Option, Some, None, codes}
use Rattle.std.specs.Str.{bytes_eq}
use Rattle.pc_terms.specs.declared.tree_kinds.TreeKind.TheVariants as kind
use Rattle.positioned_trees.specs.declared.details.Detail.TheVariants as detail
use Rattle.positioned_trees.specs.declared.details.Name.{Name}
use Rattle.positioned_trees.specs.declared.details.ParamKeyword.{ParamKeyword}
use Rattle.positioned_trees.specs.declared.details.ParamKeyword.TheVariants as keyword
use Rattle.source_grammar.specs.Lexemes.{Lexeme}
use Rattle.parse_parts.specs.Built.{no_kids, joined, alone, node}
use Rattle.parse_parts.specs.Reading.{begun as type_begun}
use Rattle.parse_parts.specs.Steps.{from_to, tail_end}
use Rattle.parse_parts.specs.declared.built.Tall.{Tall}
use Rattle.parse_parts.specs.declared.states.State.{State as TypeState}
use Rattle.tree_lower.specs.Lowering.{detailed}
use Rattle.expr_tails.specs.Symbols.{symbol_of}
use Rattle.expr_tails.specs.Types.{is_type, type_of}
use Rattle.expr_tails.specs.declared.symbols.Symbol.{Symbol}
use Rattle.expr_tails.specs.declared.symbols.Symbol.TheVariants as symbol
use Rattle.expr_tails.specs.declared.symbols.Word.TheVariants as word
use Rattle.expr_steps.specs.Steps.{type_on, name_of}
use Rattle.def_steps.specs.Definitions.{begun as mods_begun, step as step_mods}
use Rattle.def_steps.specs.Heads.{goes_on}
use Rattle.def_steps.specs.Modifiers.{is_value_word, may_end, mods_at}
use Rattle.def_steps.specs.Params.{is_plain, one_more}
use Rattle.def_steps.specs.declared.states.Found.{Found}
use Rattle.def_steps.specs.declared.states.Tail.{Tail as DefTail}
use Rattle.def_steps.specs.declared.states.Tail.TheVariants as def_tail
use Rattle.def_steps.specs.declared.states.State.{State as DefState}
use Rattle.template_steps.specs.declared.class_params.ParamList.{ParamList}
use Rattle.template_steps.specs.declared.class_params.ParamTail.{ParamTail}
use Rattle.template_steps.specs.declared.class_params.ParamTail.TheVariants as tail
use Rattle.template_steps.specs.declared.class_params.ParamStart.{ParamStart}
use Rattle.template_steps.specs.declared.class_params.Params.{Params}
use Rattle.template_steps.specs.declared.class_params.Params.TheVariants as params

abbrev pub no_params : ParamList
no_params = record { kids = no_kids; count = 0 }

abbrev pub with_param : ParamList → Option Tall → ParamList
with_param l p = record { kids = joined l.kids p; count = one_more l.count }

abbrev pub param_tree : ParamStart → Name → Option Tall → ℕ → Bool → Option Tall
param_tree b name ty end repeated =
    detailed (detail.Param (record { modifiers = b.modifiers; keyword = b.keyword; binds = true; repeated = repeated }))
    (node kind.Param name.text name.span (from_to b.start end) (alone ty))

abbrev pub still_open : ParamList → ParamTail → Option Params
still_open l at = Some (params.Open l at)

abbrev pub keyword_read : ParamStart → ParamKeyword → ParamTail
keyword_read b k = tail.AtKeyword (record b { keyword = k })

-- the keyword or name behind the modifiers
abbrev pub behind_mods : ParamList → ParamStart → Symbol → Lexeme → Option Params
behind_mods l b symbol.Id x = still_open l (tail.AtName b (name_of x))
behind_mods l b (symbol.Word word.Val) x = still_open l (keyword_read b keyword.Val)
behind_mods l b (symbol.Word word.Var) x = still_open l (keyword_read b keyword.Var)
behind_mods l b _ x = None

abbrev pub ends_mods : Symbol → Bool
ends_mods symbol.Id = true
ends_mods (symbol.Word w) = is_value_word w
ends_mods _ = false

abbrev pub behind_found : ParamList → ℕ → Option Found → Symbol → Lexeme → Option Params
behind_found l start None s x = None
behind_found l start (Some found) s x =
    behind_mods l (record { start = start; modifiers = found.modifiers; keyword = keyword.Missing }) s x

-- the word of a definition was read behind the modifiers
abbrev pub is_definition_begun_at : DefTail → Bool
is_definition_begun_at (def_tail.AtDef start) = true
is_definition_begun_at (def_tail.AtType start) = true
is_definition_begun_at _ = false

abbrev pub is_definition_begun : DefState → Bool
is_definition_begun d = is_definition_begun_at d.tail

abbrev pub mods_on : ParamList → ℕ → Option DefState → Option Params
mods_on l start None = None
mods_on l start (Some mods) = if is_definition_begun mods then None else still_open l (tail.InMods start mods)

abbrev pub in_mods : ParamList → ℕ → DefState → Symbol → Lexeme → Option Params
in_mods l start mods s x =
    if ends_mods s && may_end mods.tail then behind_found l start (mods_at mods.tail mods.found x.place.before) s x
    else mods_on l start (step_mods mods x)

abbrev pub at_begin : ParamList → Bool → Symbol → Lexeme → Option Params
at_begin l may_close symbol.CloseRound x = if may_close then Some (params.Closed l) else None
at_begin l may_close s x = in_mods l x.place.span.start mods_begun s x

abbrev pub is_star : Lexeme → Bool
is_star x = is_plain x.kind && bytes_eq x.word (codes "*")

-- the parameter that ends with its type
abbrev pub typed_param : ParamStart → Name → TypeState → Option Tall
typed_param b name ty = param_tree b name (type_of ty) (tail_end ty.tail) false

abbrev pub starred : ParamList → ParamStart → Name → TypeState → Lexeme → Option Params
starred l b name ty x =
    if is_star x then still_open l (tail.AtStar (param_tree b name (type_of ty) x.place.span.end true)) else None

abbrev pub behind_type : ParamList → ParamStart → Name → TypeState → Symbol → Lexeme → Option Params
behind_type l b name ty symbol.Id x = starred l b name ty x
behind_type l b name ty symbol.Comma x = still_open (with_param l (typed_param b name ty)) (tail.Begin false)
behind_type l b name ty symbol.CloseRound x = Some (params.Closed (with_param l (typed_param b name ty)))
behind_type l b name ty _ x = None

abbrev pub in_type : ParamList → ParamStart → Name → TypeState → Symbol → Lexeme → Option Params
in_type l b name ty s x =
    if goes_on ty x then still_open l (tail.InType b name (type_on ty x))
    else (if is_type ty then behind_type l b name ty s x else None)

abbrev pub at_keyword : ParamList → ParamStart → Symbol → Lexeme → Option Params
at_keyword l b symbol.Id x = still_open l (tail.AtName b (name_of x))
at_keyword l b _ x = None

abbrev pub at_name : ParamList → ParamStart → Name → Symbol → Option Params
at_name l b name symbol.Colon = still_open l (tail.InType b name type_begun)
at_name l b name _ = None

-- `*` stands only in the last of a list
abbrev pub at_star : ParamList → Option Tall → Symbol → Option Params
at_star l p symbol.CloseRound = Some (params.Closed (with_param l p))
at_star l p _ = None

abbrev pub stepped_at : ParamTail → ParamList → Symbol → Lexeme → Option Params
stepped_at (tail.Begin may_close) l s x = at_begin l may_close s x
stepped_at (tail.InMods start mods) l s x = in_mods l start mods s x
stepped_at (tail.AtKeyword b) l s x = at_keyword l b s x
stepped_at (tail.AtName b name) l s x = at_name l b name s
stepped_at (tail.InType b name ty) l s x = in_type l b name ty s x
stepped_at (tail.AtStar p) l s x = at_star l p s

-- the parameters behind one token more, if it can stand next
abbrev pub step_params : ParamList → ParamTail → Lexeme → Option Params
step_params l at x = stepped_at at l (symbol_of x.kind x.word) x
