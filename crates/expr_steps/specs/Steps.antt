-- What a reader of expressions makes of one token more.
use Rattle.std.specs.Prelude.{ℕ, Bool, true, false, not, ◌&&◌, ◌||◌, if◌then◌else◌}
use Rattle.std.specs.Prelude.{List, [], ◌∷◌, ◌++◌, Option, Some, None, codes}
use Rattle.std.specs.List.{list_any}
use Rattle.std.specs.Str.{bytes_eq}
use Rattle.pc_terms.specs.declared.problems.Span.{Span}
use Rattle.pc_terms.specs.declared.tree_kinds.TreeKind.TheVariants as kind
use Rattle.positioned_trees.specs.declared.details.Name.{Name}
use Rattle.scan_tokens.specs.declared.tokens.Newline.{Newline}
use Rattle.scan_tokens.specs.declared.tokens.Newline.TheVariants.{No}
use Rattle.scan_tokens.specs.Words.{Bytes}
use Rattle.source_grammar.specs.ExpressionRules.{is_prefix_id}
use Rattle.source_grammar.specs.Lexemes.{Lexeme}
use Rattle.source_grammar.specs.Spans.{from_to}
use Rattle.parse_parts.specs.Built.{no_kids, joined, alone, node}
use Rattle.parse_parts.specs.declared.built.Kids.{Kids}
use Rattle.parse_parts.specs.declared.states.State.{State as TypeState}
use Rattle.parse_parts.specs.declared.symbols.Symbol.{Symbol as TypeSymbol}
use Rattle.parse_parts.specs.Reading.{begun as type_begun}
use Rattle.parse_parts.specs.Steps as types
use Rattle.parse_parts.specs.Symbols as type_symbols
use Rattle.parse_patterns.specs.Names.{id_of}
use Rattle.parse_patterns.specs.Steps.{is_no}
use Rattle.parse_patterns.specs.declared.states.Operand.{Operand}
use Rattle.tree_lower.specs.Lowering.{unlabelled, leaf, param}
use Rattle.tree_lower.specs.declared.comprehensions.Generator.{Generator}
use Rattle.expr_frames.specs.declared.frames.Left.{Left}
use Rattle.expr_tails.specs.declared.states.Asker.TheVariants as asker
use Rattle.expr_tails.specs.declared.states.Begun.{Begun}
use Rattle.expr_tails.specs.declared.states.Call.{Call}
use Rattle.expr_tails.specs.declared.states.Context.{Context}
use Rattle.expr_tails.specs.declared.states.Element.{Element}
use Rattle.expr_tails.specs.declared.states.Form.TheVariants as form
use Rattle.expr_tails.specs.declared.states.Frame.{Frame}
use Rattle.expr_tails.specs.declared.states.Head.{Head}
use Rattle.expr_tails.specs.declared.states.HeadKind.{HeadKind}
use Rattle.expr_tails.specs.declared.states.HeadKind.TheVariants as head
use Rattle.expr_tails.specs.declared.states.Limit.{Limit}
use Rattle.expr_tails.specs.declared.states.Reach.{Reach}
use Rattle.expr_tails.specs.declared.states.Tail.{Tail}
use Rattle.expr_tails.specs.declared.states.Tail.TheVariants as tail
use Rattle.expr_tails.specs.declared.states.State.{State}
use Rattle.expr_tails.specs.declared.states.TypedOf.TheVariants as typed_of
use Rattle.expr_tails.specs.declared.symbols.Symbol.{Symbol}
use Rattle.expr_tails.specs.declared.symbols.Symbol.TheVariants as symbol
use Rattle.expr_tails.specs.declared.symbols.Word.{Word}
use Rattle.expr_tails.specs.declared.symbols.Word.TheVariants as word
use Rattle.expr_tails.specs.Ending.{at_tail, is_first, is_expr_limit, may_head, signed_at, is_semi, waits_in}
use Rattle.expr_frames.specs.Frames.{is_param_limit, is_begin, may_stand, takes_args, left}
use Rattle.expr_frames.specs.Frames.{round_opened, parted, round_closed, wild_name, in_state}
use Rattle.expr_frames.specs.Generators.{chain_of, in_pattern, begins_generator, ends_part}
use Rattle.expr_frames.specs.Generators.{next_generator, guarded, separated}
use Rattle.expr_frames.specs.Heads.{with_head, is_taken, with_word, with_semicolon}
use Rattle.expr_tails.specs.Operators.{pushed, fits}
use Rattle.expr_tails.specs.Tails.{from_start, ident, select_hole, new_at, new_with_type, element_param}
use Rattle.expr_tails.specs.Tails.{is_name_tail, is_operand, is_whole, is_before_operator}
use Rattle.expr_tails.specs.Symbols.{symbol_of, begins_prim, begins_expr}
use Rattle.expr_tails.specs.Types.{is_type, is_type_and_dot, type_of, type_takes}

abbrev pub state : List Frame → Context → State
state frames c = record { frames = frames; context = c }

abbrev pub name_of : Lexeme → Name
name_of x = record { text = x.word; span = x.place.span }

abbrev pub when : Bool → Context → Option Context
when holds c = if holds then Some c else None

-- ---- what the next token decides of the tail before it

abbrev pub is_number : Symbol → Bool
is_number symbol.Number = true
is_number _ = false

abbrev pub is_id : Symbol → Bool
is_id symbol.Id = true
is_id _ = false

abbrev pub follows_sign : Limit → Symbol → Newline → Bool
follows_sign limit s before = is_no before && (begins_prim s && not (is_param_limit limit))

abbrev pub with_sign : Context → Name → Context
with_sign c name = record {
  heads = c.heads;
  free = c.free;
  operations = c.operations;
  sign = Some name;
  tail = tail.Begin;
  limit = c.limit;
}

-- a second sign is a name
abbrev pub signed_by : Context → Option Name → Name → Context
signed_by c None name = with_sign c name
signed_by c (Some sign) name = at_tail c (tail.AtName name true)

abbrev pub is_minus : Name → Bool
is_minus name = bytes_eq name.text (codes "-")

-- A sign is a prefix operator where an operand follows it in its line, the minus of a number, or a name.
abbrev pub sign_decided : Context → Name → Symbol → Newline → Context
sign_decided c name s before =
    if not (follows_sign c.limit s before) then at_tail c (tail.AtName name true)
    else (if is_number s && is_minus name then at_tail c (tail.AtSign name) else signed_by c c.sign name)

abbrev pub hole_of_new : ℕ → ℕ → TypeState → Tail
hole_of_new start end ty = tail.AtPrim (select_hole (new_at (new_with_type start ty)) end) form.Hole

abbrev pub new_decided : ℕ → ℕ → TypeState → Tail
new_decided start end ty =
    if is_type ty then tail.AtNew (new_with_type start ty)
    else (if is_type_and_dot ty then hole_of_new start end ty else tail.InNew start end ty)

abbrev pub dot_decided : Operand → Span → Symbol → Tail
dot_decided receiver point s =
    if is_id s then tail.AtDot receiver point else tail.AtPrim (select_hole receiver point.end) form.Hole

abbrev pub return_decided : Context → Span → Symbol → Newline → Context
return_decided c span s before =
    if is_no before && begins_expr s then with_head c span.start head.Return else at_tail c (tail.AtReturn span)

-- after its last `.` a name may be missing
abbrev pub may_be_hole : Tail → Bool
may_be_hole (tail.InNew start end ty) = true
may_be_hole (tail.AtDot receiver point) = true
may_be_hole _ = false

-- what stands here depends on the token after it
abbrev pub is_undecided : Tail → Bool
is_undecided (tail.AtSign name) = true
is_undecided (tail.AtReturn span) = true
is_undecided at = may_be_hole at

-- the context with the tail that it is where this token follows
abbrev pub decided_at : Tail → Context → Symbol → Newline → Context
decided_at (tail.AtSign name) c s before = sign_decided c name s before
decided_at (tail.InNew start end ty) c s before = at_tail c (new_decided start end ty)
decided_at (tail.AtDot receiver point) c s before = at_tail c (dot_decided receiver point s)
decided_at (tail.AtReturn span) c s before = return_decided c span s before
decided_at at c s before = at_tail c at

abbrev pub decided : Context → Symbol → Newline → Context
decided c s before = decided_at c.tail c s before

-- ---- types

abbrev pub type_symbol : Lexeme → TypeSymbol
type_symbol x = type_symbols.symbol_of x.kind x.word

abbrev pub type_on : TypeState → Lexeme → TypeState
type_on ty x = types.advanced ty (type_symbol x) x.place.span x.word

abbrev pub in_type : Tail → Lexeme → Tail
in_type (tail.InNew start end ty) x = tail.InNew start x.place.span.end (type_on ty x)
in_type (tail.InTypes begun ty) x = tail.InTypes begun (type_on ty x)
in_type (tail.InTyped of ty) x = tail.InTyped of (type_on ty x)
in_type at x = at

abbrev pub with_type : Begun → TypeState → Begun
with_type begun ty = record { start = begun.start; kids = joined begun.kids (type_of ty) }

abbrev pub applied : Begun → ℕ → Tail
applied begun end = tail.AtPrim (record {
  tall = unlabelled kind.TypeApply (from_start begun.start end) begun.kids;
  span = from_start begun.start end;
}) form.Plain

-- after a type argument
abbrev pub types_on : Context → Begun → TypeState → Symbol → ℕ → Option Context
types_on c begun ty symbol.Comma end = when (is_type ty) (at_tail c (tail.InTypes (with_type begun ty) type_begun))
types_on c begun ty symbol.CloseSquare end = when (is_type ty) (at_tail c (applied (with_type begun ty) end))
types_on c begun ty s end = None

-- ---- names and operands

abbrev pub is_prefix_word : Bytes → Bool
is_prefix_word text = list_any (λ sign. bytes_eq sign text) (codes "-" ∷ codes "+" ∷ codes "!" ∷ codes "~" ∷ [])

abbrev pub is_prefix_name : Lexeme → Bool
is_prefix_name x = is_prefix_id (id_of x)

abbrev pub named_tail : Lexeme → Tail
named_tail x = if is_prefix_name x then tail.AtSign (name_of x) else tail.AtName (name_of x) false

abbrev pub selected : Operand → Name → Operand
selected receiver name = record {
  tall = node kind.Select name.text name.span (from_to receiver.span name.span) (alone receiver.tall);
  span = from_to receiver.span name.span;
}

abbrev pub super_of : Span → Name → Operand
super_of word name = record {
  tall = node kind.Super name.text name.span (from_to word name.span) no_kids;
  span = from_to word name.span;
}

abbrev pub operated : Context → Name → Context
operated c name = record {
  heads = c.heads;
  free = (signed_at c.sign c.tail c.free).free;
  operations = pushed c.operations (signed_at c.sign c.tail c.free).operand name;
  sign = None;
  tail = tail.Begin;
  limit = c.limit;
}

abbrev pub may_begin_name : Context → Newline → Bool
may_begin_name c before = if is_param_limit c.limit then is_begin c.tail else may_stand c before

abbrev pub may_operate : Context → Newline → Bytes → Bool
may_operate c before text =
    is_before_operator c.tail && (is_no before && (not (is_param_limit c.limit) && fits c.operations text))

abbrev pub name_behind : Tail → Context → Name → Option Context
name_behind (tail.AtDot receiver point) c name = Some (at_tail c (tail.AtPrim (selected receiver name) form.Select))
name_behind (tail.AtSuperDot word) c name = Some (at_tail c (tail.AtPrim (super_of word name) form.Plain))
name_behind _ c name = None

abbrev pub on_id : Context → Lexeme → Option Context
on_id c x =
    if may_begin_name c x.place.before then Some (at_tail c (named_tail x))
    else (if may_operate c x.place.before x.word then Some (operated c (name_of x))
    else name_behind c.tail c (name_of x))

abbrev pub literal : Bytes → Span → Tail
literal text span = tail.AtPrim (record { tall = leaf kind.Literal text span; span = span }) form.Plain

abbrev pub on_literal : Context → Lexeme → Option Context
on_literal c x = when (may_stand c x.place.before) (at_tail c (literal x.word x.place.span))

abbrev pub negated : Name → Lexeme → Tail
negated sign x = literal (codes "-" ++ x.word) (from_to sign.span x.place.span)

-- a number, maybe after its minus
abbrev pub number_at : Tail → Context → Lexeme → Option Context
number_at (tail.AtSign sign) c x = Some (at_tail c (negated sign x))
number_at _ c x = on_literal c x

abbrev pub eta : Left → ℕ → Context
eta l end = at_tail l.context (tail.AtPrim (record {
  tall = unlabelled kind.Eta (from_start l.operand.span.start end) (alone l.operand.tall);
  span = from_start l.operand.span.start end;
}) form.Plain)

abbrev pub is_new : Tail → Bool
is_new (tail.AtNew new) = true
is_new _ = false

abbrev pub takes_underscore : Context → Newline → Bool
takes_underscore c before = (takes_args c || is_new c.tail) && is_no before

abbrev pub on_underscore : Context → Newline → Span → Option Context
on_underscore c before span =
    if may_begin_name c before then Some (at_tail c (tail.AtWild span))
    else when (takes_underscore c before) (eta (left c) span.end)

abbrev pub may_go_on : Context → Bool
may_go_on c = is_operand c.tail && not (is_param_limit c.limit)

abbrev pub dotted : Left → Span → Context
dotted l span = at_tail l.context (tail.AtDot l.operand span)

abbrev pub dotted_at : Tail → Context → Span → Option Context
dotted_at (tail.AtSuper word) c span = Some (at_tail c (tail.AtSuperDot word))
dotted_at _ c span = when (may_go_on c) (dotted (left c) span)

abbrev pub types_begun : Left → Context
types_begun l =
    at_tail l.context (tail.InTypes (record { start = l.operand.span.start; kids = alone l.operand.tall }) type_begun)

abbrev pub on_open_square : Context → Option Context
on_open_square c = when (may_go_on c) (types_begun (left c))

-- ---- what ends an Infix

-- a context before its operands and operators
abbrev pub without_chain : Context → List Span → Context
without_chain c free = record {
  heads = c.heads;
  free = free;
  operations = [];
  sign = None;
  tail = tail.Begin;
  limit = c.limit;
}

abbrev pub chain_left : Context → Left
chain_left c = record { operand = (chain_of c).operand; context = without_chain c (chain_of c).free }

abbrev pub typed_infix : Left → Context
typed_infix l = at_tail l.context (tail.InTyped (typed_of.Infix l.operand) type_begun)

abbrev pub is_name_or_wild_tail : Tail → Bool
is_name_or_wild_tail (tail.AtName name is_sign) = true
is_name_or_wild_tail (tail.AtWild span) = true
is_name_or_wild_tail _ = false

-- a name or `_` alone, which may be a parameter
abbrev pub typed_name : Tail → Context → Context
typed_name (tail.AtName name is_sign) c = at_tail c (tail.InTyped (typed_of.Name name) type_begun)
typed_name (tail.AtWild span) c = at_tail c (tail.InTyped (typed_of.Wild span) type_begun)
typed_name at c = at_tail c at

abbrev pub typed_from : Context → Context
typed_from c = if is_first c && is_name_or_wild_tail c.tail then typed_name c.tail c else typed_infix (chain_left c)

abbrev pub may_be_typed : Context → Bool
may_be_typed c = is_operand c.tail && (is_expr_limit c.limit || is_param_limit c.limit)

abbrev pub on_colon : Context → Option Context
on_colon c = when (may_be_typed c) (typed_from c)

abbrev pub matched : Left → Context
matched l = at_tail l.context (tail.AtMatch l.operand)

abbrev pub on_match : Context → Option Context
on_match c = when (is_operand c.tail && is_expr_limit c.limit) (matched (chain_left c))

-- ---- heads

abbrev pub assigned : Context → Operand → Context
assigned c target = with_head c target.span.start (head.Assign (alone target.tall))

abbrev pub updated : Context → Call → Context
updated c call = with_head c call.span.start (head.Update call.receiver call.args)

abbrev pub equals_at : Tail → Context → Option Context
equals_at (tail.AtName name is_sign) c = Some (assigned c (ident name))
equals_at (tail.AtPrim operand form.Select) c = Some (assigned c operand)
equals_at (tail.AtCall call) c = Some (updated c call)
equals_at _ c = None

abbrev pub on_equals : Context → Option Context
on_equals c = if may_head c then equals_at c.tail c else None

abbrev pub element_params : Option Kids → List Element → Option Kids
element_params kids [] = kids
element_params kids (e ∷ es) = element_params (joined kids (element_param e)) es

abbrev pub is_head_tail : Tail → Bool
is_head_tail (tail.AtWild span) = true
is_head_tail (tail.AtGroup group) = group.may_be_head
is_head_tail at = is_name_tail at

-- what stands at the tail can be the head of a lambda
abbrev pub is_lambda_head : Context → Bool
is_lambda_head c = may_head c && is_head_tail c.tail

abbrev pub one_param : Name → Bool → Begun
one_param name binds = record { start = name.span.start; kids = alone (param name binds name.span no_kids) }

-- the parameters that stand at the tail
abbrev pub params_at : Tail → Begun
params_at (tail.AtSign name) = one_param name true
params_at (tail.AtName name is_sign) = one_param name true
params_at (tail.AtWild span) = one_param (wild_name span) false
params_at (tail.AtGroup group) = record { start = group.span.start; kids = element_params no_kids group.elements }
params_at _ = record { start = 0; kids = None }

abbrev pub lambda : Context → Begun → Context
lambda c params = with_head c params.start (head.Lambda params.kids)

abbrev pub on_arrow : Context → Option Context
on_arrow c = when (is_lambda_head c) (lambda c (params_at c.tail))

abbrev pub with_heads : Context → List Head → Context
with_heads c hs = record {
  heads = hs;
  free = c.free;
  operations = c.operations;
  sign = c.sign;
  tail = c.tail;
  limit = c.limit;
}

abbrev pub yields_head : ℕ → List Generator → List Span → Reach → Head
yields_head start gens free reach = record { start = start; kind = head.For gens true; free = free; reach = reach }

-- directly after the generators, where `yield` does not stand yet
abbrev pub yielding_by : HeadKind → Context → Head → Option Context
yielding_by (head.For gens yields) c h =
    if yields then None else Some (with_heads c (yields_head h.start gens h.free h.reach ∷ c.heads))
yielding_by _ c h = None

abbrev pub yielding_at : List Head → Context → Option Context
yielding_at [] c = None
yielding_at (h ∷ hs) c = yielding_by h.kind (with_heads c hs) h

abbrev pub may_begin : Context → Bool
may_begin c = may_stand c No && may_head c

-- the context after a word with which an expression begins
abbrev pub begun_with : Word → Context → Span → Option Context
begun_with word.If c span = Some (at_tail c (tail.AtAsker asker.If span.start))
begun_with word.While c span = Some (at_tail c (tail.AtAsker asker.While span.start))
begun_with word.For c span = Some (at_tail c (tail.AtAsker asker.For span.start))
begun_with word.Return c span = Some (at_tail c (tail.AtReturn span))
begun_with word.Do c span = Some (with_head c span.start head.Do)
begun_with word.Try c span = Some (with_head c span.start head.Try)
begun_with word.Throw c span = Some (with_head c span.start head.Throw)
begun_with _ c span = None

abbrev pub yielding : Context → Option Context
yielding c = if may_begin c then yielding_at c.heads c else None

abbrev pub begins : Word → Context → Span → Option Context
begins w c span = if may_begin c then begun_with w c span else None

abbrev pub prim_tail : Word → Span → Tail
prim_tail word.Super span = tail.AtSuper span
prim_tail word.New span = tail.InNew span.start span.end type_begun
prim_tail _ span = tail.AtPrim (record { tall = leaf kind.This [] span; span = span }) form.Plain

abbrev pub prim_word : Word → Context → Newline → Span → Option Context
prim_word w c before span = when (may_stand c before) (at_tail c (prim_tail w span))

abbrev pub word_at : Word → Context → Newline → Span → Option Context
word_at word.This c before span = prim_word word.This c before span
word_at word.Super c before span = prim_word word.Super c before span
word_at word.New c before span = prim_word word.New c before span
word_at word.Match c before span = on_match c
word_at word.Yield c before span = yielding c
word_at w c before span = begins w c span

abbrev pub is_if : Word → Bool
is_if word.If = true
is_if _ = false

abbrev pub taken_or : Word → Context → Newline → Span → Option Context
taken_or w c before span = if is_taken c w then Some (with_word c w) else word_at w c before span

abbrev pub on_word : Word → List Frame → Context → Newline → Span → Option State
on_word w frames c before span =
    if is_if w && ends_part frames c then guarded frames c else in_state frames (taken_or w c before span)

-- a `while` or an `else` of a head may stand after it
abbrev pub is_crossed : Context → Bool
is_crossed c = (waits_in c.heads && is_semi c.tail) || (is_whole c.tail && (waits_in c.heads || is_taken c word.Else))

abbrev pub on_semicolon : List Frame → Context → Option Context
on_semicolon frames c = if ends_part frames c then Some (separated c) else when (is_crossed c) (with_semicolon c)

unfoldable pub on_token : Symbol → List Frame → Context → Lexeme → Option State
on_token symbol.Id frames c x = in_state frames (on_id c x)
on_token symbol.Number frames c x = in_state frames (number_at c.tail c x)
on_token symbol.Literal frames c x = in_state frames (on_literal c x)
on_token symbol.Underscore frames c x = in_state frames (on_underscore c x.place.before x.place.span)
on_token symbol.Colon frames c x = in_state frames (on_colon c)
on_token symbol.Equals frames c x = in_state frames (on_equals c)
on_token symbol.Arrow frames c x = in_state frames (on_arrow c)
on_token symbol.Dot frames c x = in_state frames (dotted_at c.tail c x.place.span)
on_token symbol.OpenRound frames c x = round_opened frames c x.place.span.start x.place.before
on_token symbol.CloseRound frames c x = round_closed frames c x.place.span.end
on_token symbol.OpenSquare frames c x = in_state frames (on_open_square c)
on_token symbol.Comma frames c x = parted frames c
on_token symbol.Semicolon frames c x = in_state frames (on_semicolon frames c)
on_token (symbol.Word w) frames c x = on_word w frames c x.place.before x.place.span
on_token _ frames c x = None

-- ---- one token more

abbrev pub pattern_step : Tail → List Frame → Symbol → Lexeme → Option State
pattern_step (tail.InPattern p) frames s x = in_pattern frames p s x
pattern_step _ frames s x = None

abbrev pub next_begun : Option State → Symbol → Lexeme → Option State
next_begun None s x = None
next_begun (Some now) s x = pattern_step now.context.tail now.frames s x

abbrev pub token_or_next : List Frame → Context → Symbol → Lexeme → Option State
token_or_next frames c s x =
    if begins_generator frames c s x.place.before then next_begun (next_generator frames c) s x
    else on_token s frames c x

abbrev pub token_at : Tail → List Frame → Context → Symbol → Lexeme → Option State
token_at (tail.InPattern p) frames c s x = in_pattern frames p s x
token_at (tail.InTypes begun ty) frames c s x = in_state frames (types_on c begun ty s x.place.span.end)
token_at (tail.AtDot receiver point) frames c s x = on_token s frames c x
token_at _ frames c s x = token_or_next frames c s x

abbrev pub decided_step : List Frame → Context → Symbol → Lexeme → Option State
decided_step frames c s x = token_at c.tail frames c s x

abbrev pub type_step : List Frame → Context → Lexeme → State
type_step frames c x = state frames (at_tail c (in_type c.tail x))

-- the state after a token, if it can stand next
unfoldable pub step : State → Lexeme → Option State
step s x =
    if type_takes s.context.limit s.context.tail (type_symbol x) then Some (type_step s.frames s.context x)
    else decided_step s.frames (decided s.context (symbol_of x.kind x.word) x.place.before) (symbol_of x.kind x.word) x
