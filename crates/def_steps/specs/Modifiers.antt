-- Modifiers and annotations before a definition.
use Rattle.std.specs.Prelude.{ℕ, Bool, true, false, ◌||◌, if◌then◌else◌, List, [], ◌∷◌, Option, Some, None}
use Rattle.positioned_trees.specs.declared.details.Access.{Access}
use Rattle.positioned_trees.specs.declared.details.Access.TheVariants as access
use Rattle.scan_tokens.specs.declared.tokens.Newline.{Newline}
use Rattle.source_grammar.specs.Newlines.{is_near}
use Rattle.source_grammar.specs.Placeholders.{no_modifiers}
use Rattle.parse_parts.specs.Reading.{is_nil}
use Rattle.parse_patterns.specs.Steps.{is_no}
use Rattle.expr_tails.specs.declared.symbols.Symbol.{Symbol}
use Rattle.expr_tails.specs.declared.symbols.Symbol.TheVariants as symbol
use Rattle.expr_tails.specs.declared.symbols.Word.{Word}
use Rattle.expr_tails.specs.declared.symbols.Word.TheVariants as word
use Rattle.def_steps.specs.declared.states.Bracket.{Bracket}
use Rattle.def_steps.specs.declared.states.Bracket.TheVariants as bracket
use Rattle.def_steps.specs.declared.states.Found.{Found}
use Rattle.def_steps.specs.declared.states.Gap.{Gap}
use Rattle.def_steps.specs.declared.states.Gap.TheVariants as gap
use Rattle.def_steps.specs.declared.states.Tail.{Tail}
use Rattle.def_steps.specs.declared.states.Tail.TheVariants as tail
use Rattle.def_steps.specs.declared.states.State.{State}

abbrev pub nothing_found : Found
nothing_found = record { modifiers = no_modifiers; is_lazy = false; has_access = false; any = false }

-- what comes next may stand after this newline
abbrev pub bridges : Gap → Newline → Bool
bridges gap.Any before = true
bridges gap.Joined before = is_no before
bridges gap.Near before = is_near before

-- the first modifier of access counts
abbrev pub with_access : Found → Access → Found
with_access found a =
    if found.has_access then found
    else record found { modifiers = record found.modifiers { access = a }; has_access = true; any = true }

abbrev pub with_modifier : Found → Word → Found
with_modifier found word.Final = record found { modifiers = record found.modifiers { final_ = true }; any = true }
with_modifier found word.Override = record found { modifiers = record found.modifiers { override_ = true }; any = true }
with_modifier found word.Lazy = record found { is_lazy = true; any = true }
with_modifier found _ = record found { any = true }

-- modifiers of classes alone (SLS 5.2)
abbrev pub is_class_modifier : Word → Bool
is_class_modifier word.Abstract = true
is_class_modifier word.Sealed = true
is_class_modifier _ = false

-- modifiers of values and methods alone (SLS 5.2)
abbrev pub is_member_modifier : Word → Bool
is_member_modifier word.Lazy = true
is_member_modifier word.Override = true
is_member_modifier _ = false

-- a modifier that says nothing of access, or `case`
abbrev pub is_plain : Word → Bool
is_plain word.Final = true
is_plain word.Case = true
is_plain w = is_class_modifier w || is_member_modifier w

abbrev pub is_access_word : Word → Bool
is_access_word word.Private = true
is_access_word word.Protected = true
is_access_word _ = false

abbrev pub is_value_word : Word → Bool
is_value_word word.Val = true
is_value_word word.Var = true
is_value_word _ = false

abbrev pub is_definition_word : Word → Bool
is_definition_word word.Def = true
is_definition_word word.Type = true
is_definition_word w = is_access_word w || (is_value_word w || is_plain w)

-- a definition can begin with it
abbrev pub begins_definition : Symbol → Bool
begins_definition symbol.At = true
begins_definition (symbol.Word w) = is_definition_word w
begins_definition _ = false

abbrev pub state : Found → Tail → Option State
state found at = Some (record { found = found; tail = at })

abbrev pub after_plain : Found → Word → Option State
after_plain found w = if is_plain w then state (with_modifier found w) (tail.AtMods gap.Joined) else None

abbrev pub on_word : Found → Word → ℕ → Option State
on_word found word.Val start = state found (tail.AtValue false start)
on_word found word.Var start = state found (tail.AtValue true start)
on_word found word.Def start = state found (tail.AtDef start)
on_word found word.Type start = state found (tail.AtType start)
on_word found word.Private start = state found (tail.AtAccess access.Private)
on_word found word.Protected start = state found (tail.AtAccess access.Protected)
on_word found w start = after_plain found w

-- annotations stand before all modifiers
abbrev pub on_mod : Found → Symbol → ℕ → Option State
on_mod found symbol.At start = if found.any then None else state found tail.AtAt
on_mod found (symbol.Word w) start = on_word found w start
on_mod found _ start = None

abbrev pub at_mods : Found → Gap → Symbol → ℕ → Newline → Option State
at_mods found g s start before = if bridges g before then on_mod found s start else None

abbrev pub arguments_opened : Found → Newline → Option State
arguments_opened found before = if is_no before then state found (tail.InArguments (bracket.Round ∷ [])) else None

abbrev pub at_annotation : Found → Symbol → ℕ → Newline → Option State
at_annotation found symbol.Dot start before = state found tail.AtAnnotationDot
at_annotation found symbol.OpenRound start before = arguments_opened found before
at_annotation found s start before = at_mods found gap.Near s start before

abbrev pub same_bracket : Bracket → Bracket → Bool
same_bracket bracket.Round bracket.Round = true
same_bracket bracket.Square bracket.Square = true
same_bracket _ _ = false

abbrev pub arguments_at : Found → List Bracket → Option State
arguments_at found bs = if is_nil bs then state found (tail.AtMods gap.Near) else state found (tail.InArguments bs)

abbrev pub closed : Found → List Bracket → Bracket → Option State
closed found [] is = None
closed found (b ∷ bs) is = if same_bracket b is then arguments_at found bs else None

abbrev pub with_bracket : Found → List Bracket → Bracket → Option State
with_bracket found bs b = state found (tail.InArguments (b ∷ bs))

-- the brackets in the arguments of an annotation match
abbrev pub in_arguments : Found → List Bracket → Symbol → Option State
in_arguments found bs symbol.OpenRound = with_bracket found bs bracket.Round
in_arguments found bs symbol.OpenSquare = with_bracket found bs bracket.Square
in_arguments found bs symbol.CloseRound = closed found bs bracket.Round
in_arguments found bs symbol.CloseSquare = closed found bs bracket.Square
in_arguments found bs _ = state found (tail.InArguments bs)

abbrev pub at_access : Found → Access → Symbol → ℕ → Newline → Option State
at_access found a symbol.OpenSquare start before = state found (tail.AtAccessOpen a)
at_access found a s start before = at_mods (with_access found a) gap.Joined s start before

-- `this` changes nothing, and a name makes public
abbrev pub at_access_open : Found → Access → Symbol → Option State
at_access_open found a symbol.Id = state found (tail.AtAccessName access.Public)
at_access_open found a (symbol.Word word.This) = state found (tail.AtAccessName a)
at_access_open found a _ = None

abbrev pub at_access_name : Found → Access → Symbol → Option State
at_access_name found a symbol.CloseSquare = state (with_access found a) (tail.AtMods gap.Joined)
at_access_name found a _ = None

-- after the `@` of an annotation, or a `.` in its path
abbrev pub at_path : Found → Symbol → Option State
at_path found symbol.Id = state found tail.AtAnnotation
at_path found _ = None

-- a name of the path of an annotation has to follow
abbrev pub is_in_path : Tail → Bool
is_in_path tail.AtAt = true
is_in_path tail.AtAnnotationDot = true
is_in_path _ = false

-- between the brackets of a modifier of access
abbrev pub is_in_access : Tail → Bool
is_in_access (tail.AtAccessOpen a) = true
is_in_access (tail.AtAccessName a) = true
is_in_access _ = false

abbrev pub is_after_access : Tail → Bool
is_after_access (tail.AtAccess a) = true
is_after_access _ = false

-- modifiers may end here, if the newline after them allows it
abbrev pub may_end : Tail → Bool
may_end (tail.AtMods g) = true
may_end tail.AtAnnotation = true
may_end at = is_after_access at

-- what was read last is part of modifiers
abbrev pub is_in_modifiers : Tail → Bool
is_in_modifiers (tail.InArguments bs) = true
is_in_modifiers at = may_end at || (is_in_path at || is_in_access at)

abbrev pub found_if : Bool → Found → Option Found
found_if holds found = if holds then Some found else None

-- the modifiers that end before what stands after this newline, if they can
abbrev pub mods_at : Tail → Found → Newline → Option Found
mods_at (tail.AtMods g) found before = found_if (bridges g before) found
mods_at tail.AtAnnotation found before = found_if (is_near before) found
mods_at (tail.AtAccess a) found before = found_if (is_no before) (with_access found a)
mods_at _ found before = None
