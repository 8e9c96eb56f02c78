-- What a reader of patterns makes of one token more.
use Rattle.std.specs.Prelude.{ℕ, Bool, true, false, not, ◌&&◌, ◌||◌, if◌then◌else◌, List, [], ◌∷◌, ◌++◌, Option, Some, None, codes}
use Rattle.pc_terms.specs.declared.problems.Span.{Span}
use Rattle.pc_terms.specs.declared.tree_kinds.TreeKind.TheVariants as kind
use Rattle.scan_tokens.specs.declared.tokens.Newline.{Newline}
use Rattle.scan_tokens.specs.declared.tokens.Newline.TheVariants.{No}
use Rattle.scan_tokens.specs.Words.{Bytes}
use Rattle.positioned_trees.specs.declared.details.Name.{Name}
use Rattle.source_grammar.specs.Lexemes.{Lexeme}
use Rattle.source_grammar.specs.Newlines.{is_near}
use Rattle.source_grammar.specs.Patterns.{is_bar}
use Rattle.source_grammar.specs.Precedence.{precedence, is_right}
use Rattle.parse_parts.specs.declared.built.Kids.{Kids}
use Rattle.parse_parts.specs.declared.built.Tall.{Tall}
use Rattle.parse_parts.specs.declared.states.Count.{Count}
use Rattle.parse_parts.specs.declared.states.Count.TheVariants as count
use Rattle.parse_parts.specs.declared.states.Path.{Path}
use Rattle.parse_parts.specs.declared.states.Frame.{Frame as TypeFrame}
use Rattle.parse_parts.specs.declared.states.Tail.{Tail as TypeTail}
use Rattle.parse_parts.specs.declared.states.Tail.TheVariants as type_tail
use Rattle.parse_parts.specs.declared.states.State.{State as TypeState}
use Rattle.parse_parts.specs.declared.symbols.Symbol.{Symbol as TypeSymbol}
use Rattle.parse_parts.specs.declared.symbols.Symbol.TheVariants as type_symbol
use Rattle.parse_parts.specs.Built.{no_kids, joined, alone, node, only}
use Rattle.parse_parts.specs.Reading.{is_nil, begun as type_begun}
use Rattle.parse_parts.specs.Steps as types
use Rattle.parse_parts.specs.Steps.{first, next, from_to, path_node, path_term, is_zero, is_none}
use Rattle.parse_parts.specs.Symbols as type_symbols
use Rattle.parse_patterns.specs.declared.states.Bracket.{Bracket}
use Rattle.parse_patterns.specs.declared.states.Bracket.TheVariants.{Group, Call}
use Rattle.parse_patterns.specs.declared.states.Current.{Current}
use Rattle.parse_patterns.specs.declared.states.Current.TheVariants.{InType, InInfix}
use Rattle.parse_patterns.specs.declared.states.Earlier.{Earlier}
use Rattle.parse_patterns.specs.declared.states.Frame.{Frame}
use Rattle.parse_patterns.specs.declared.states.Infix.{Infix}
use Rattle.parse_patterns.specs.declared.states.Lead.{Lead}
use Rattle.parse_patterns.specs.declared.states.Lead.TheVariants as lead
use Rattle.parse_patterns.specs.declared.states.Operand.{Operand}
use Rattle.parse_patterns.specs.declared.states.Operation.{Operation}
use Rattle.parse_patterns.specs.declared.states.Tail.{Tail}
use Rattle.parse_patterns.specs.declared.states.Tail.TheVariants.{Begin, AtWild, AtPath, AtDot, AtEnded}
use Rattle.parse_patterns.specs.declared.states.State.{State}
use Rattle.parse_patterns.specs.declared.symbols.Symbol.{Symbol}
use Rattle.parse_patterns.specs.declared.symbols.Symbol.TheVariants as symbol
use Rattle.parse_patterns.specs.Names.{id_of, lead_of}
use Rattle.parse_patterns.specs.Operators.{settled, folded, waiting, fits}
use Rattle.parse_patterns.specs.Symbols.{symbol_of}

-- ---- the patterns that were read

abbrev pub leaf : Bytes → Span → Operand
leaf text span = record { tall = node kind.LitPat text span span no_kids; span = span }

abbrev pub wild : Span → Operand
wild span = record { tall = node kind.Wild [] span span no_kids; span = span }

abbrev pub is_var_lead : Lead → Bool
is_var_lead lead.Var = true
is_var_lead _ = false

abbrev pub path_pattern : Path → Lead → Operand
path_pattern path lead = record {
  tall = path_node (if is_var_lead lead then kind.Bind else kind.StablePat) path;
  span = from_to path.start path.name.span.end;
}

abbrev pub operand_at : Tail → Operand
operand_at (AtWild span) = wild span
operand_at (AtPath path lead) = path_pattern path lead
operand_at (AtEnded operand) = operand
operand_at _ = record { tall = None; span = from_to 0 0 }

-- x @ p
abbrev pub bound : Option Name → Operand → Operand
bound None operand = operand
bound (Some name) operand = record {
  tall = node kind.Bind name.text name.span (from_to name.span.start operand.span.end) (alone operand.tall);
  span = from_to name.span.start operand.span.end;
}

-- x: T
abbrev pub typed : Name → TypeState → Operand
typed name type = record {
  tall = node kind.TypedPat name.text name.span (from_to name.span.start (types.tail_end type.tail)) (alone (types.tail_tree type.tail));
  span = from_to name.span.start (types.tail_end type.tail);
}

abbrev pub infix_at : Infix → Operand
infix_at n = bound n.binder (settled n.operations (operand_at n.tail))

abbrev pub alternative_at : Current → Operand
alternative_at (InType name type) = typed name type
alternative_at (InInfix n) = infix_at n

-- the alternatives, and this one after them
abbrev pub with_earlier : Option Earlier → Operand → Option Tall
with_earlier None operand = operand.tall
with_earlier (Some earlier) operand =
    node kind.AltPat [] (from_to earlier.start operand.span.end) (from_to earlier.start operand.span.end) (joined earlier.kids operand.tall)

-- the same, where one more follows
abbrev pub then_later : Option Earlier → Operand → Earlier
then_later None operand = record { start = operand.span.start; kids = alone operand.tall }
then_later (Some earlier) operand = record { start = earlier.start; kids = joined earlier.kids operand.tall }

abbrev pub pattern_at : State → Option Tall
pattern_at s = with_earlier s.earlier (alternative_at s.current)

-- ---- which tokens are admitted

abbrev pub is_no : Newline → Bool
is_no No = true
is_no _ = false

abbrev pub is_whole : Tail → Bool
is_whole Begin = false
is_whole (AtDot path) = false
is_whole _ = true

-- nothing of the alternative was read
abbrev pub is_fresh : Option Name → List Operation → Bool
is_fresh None [] = true
is_fresh _ _ = false

-- a pattern may begin after this newline
abbrev pub may_stand : Option Name → List Operation → Option Earlier → Newline → Bool
may_stand binder (op ∷ ops) earlier before = is_near before
may_stand None [] (Some earlier) before = is_no before
may_stand _ [] _ before = true

abbrev pub may_begin : Infix → Option Earlier → Newline → Bool
may_begin n earlier before = may_stand n.binder n.operations earlier before

abbrev pub is_begin : Tail → Bool
is_begin Begin = true
is_begin _ = false

abbrev pub is_path : Tail → Bool
is_path (AtPath path lead) = true
is_path _ = false

-- what may stand before `:`
abbrev pub is_named : Tail → Bool
is_named (AtWild span) = true
is_named (AtPath path lead) = is_var_lead lead
is_named _ = false

-- what may stand before `@`
abbrev pub is_var_tail : Tail → Bool
is_var_tail (AtPath path lead) = is_var_lead lead
is_var_tail _ = false

abbrev pub is_minus_lead : Lead → Bool
is_minus_lead lead.Minus = true
is_minus_lead _ = false

abbrev pub is_minus_tail : Tail → Bool
is_minus_tail (AtPath path lead) = is_minus_lead lead
is_minus_tail _ = false

abbrev pub is_group : Bracket → Bool
is_group (Group start) = true
is_group (Call start name) = false

-- parentheses have three patterns at most
abbrev pub has_room : Count → Bool
has_room count.Zero = true
has_room count.One = true
has_room _ = false

abbrev pub may_part : Option Frame → Bool
may_part None = false
may_part (Some frame) = if is_group frame.bracket then has_room frame.count else true

abbrev pub may_close : Option Frame → Bool
may_close None = false
may_close (Some frame) = true

abbrev pub may_empty : Option Frame → Bool
may_empty None = false
may_empty (Some frame) = is_zero frame.count

abbrev pub operator_fits : List Operation → Lexeme → Bool
operator_fits ops x = fits ops (precedence x.word) (is_right x.word)

-- the tokens after an alternative
abbrev pub may_end : Symbol → List Frame → Lexeme → Bool
may_end symbol.Id frames x = is_bar (id_of x) && is_no x.place.before
may_end symbol.Comma frames x = may_part (first frames)
may_end symbol.CloseRound frames x = may_close (first frames)
may_end _ frames x = false

abbrev pub may_name : Tail → Infix → Option Earlier → Lexeme → Bool
may_name Begin n earlier x = may_begin n earlier x.place.before
may_name (AtDot path) n earlier x = true
may_name _ n earlier x = is_no x.place.before && (is_bar (id_of x) || operator_fits n.operations x)

abbrev pub may_number : Tail → Infix → Option Earlier → Lexeme → Bool
may_number Begin n earlier x = may_begin n earlier x.place.before
may_number tail n earlier x = is_minus_tail tail && is_no x.place.before

abbrev pub may_open : Tail → Infix → Option Earlier → Lexeme → Bool
may_open Begin n earlier x = may_begin n earlier x.place.before
may_open tail n earlier x = is_path tail && is_no x.place.before

abbrev pub may_close_at : Tail → Infix → Option Earlier → List Frame → Bool
may_close_at Begin n earlier frames = is_fresh n.binder n.operations && (is_none earlier && may_empty (first frames))
may_close_at tail n earlier frames = is_whole tail && may_close (first frames)

abbrev pub admits_infix : Symbol → List Frame → Option Earlier → Infix → Lexeme → Bool
admits_infix symbol.Id frames earlier n x = may_name n.tail n earlier x
admits_infix symbol.Number frames earlier n x = may_number n.tail n earlier x
admits_infix symbol.Literal frames earlier n x = is_begin n.tail && may_begin n earlier x.place.before
admits_infix symbol.Underscore frames earlier n x = is_begin n.tail && may_begin n earlier x.place.before
admits_infix symbol.Colon frames earlier n x = is_named n.tail && is_fresh n.binder n.operations
admits_infix symbol.At frames earlier n x = is_var_tail n.tail && (is_fresh n.binder n.operations && is_no x.place.before)
admits_infix symbol.OpenRound frames earlier n x = may_open n.tail n earlier x
admits_infix symbol.CloseRound frames earlier n x = may_close_at n.tail n earlier frames
admits_infix symbol.Comma frames earlier n x = is_whole n.tail && may_part (first frames)
admits_infix symbol.Dot frames earlier n x = is_path n.tail
admits_infix symbol.Other frames earlier n x = false

-- ---- types

abbrev pub type_symbol_of : Lexeme → TypeSymbol
type_symbol_of x = type_symbols.symbol_of x.kind x.word

abbrev pub is_alone : List TypeFrame → Bool
is_alone [] = false
is_alone (f ∷ []) = true
is_alone (f ∷ g ∷ fs) = false

abbrev pub is_type_begin : TypeTail → Bool
is_type_begin type_tail.Begin = true
is_type_begin _ = false

-- parentheses of a Simple in which three types were begun
abbrev pub is_full : List TypeFrame → Bool
is_full [] = false
is_full (f ∷ []) = types.is_round f.bracket && not (has_room f.count)
is_full (f ∷ g ∷ fs) = false

-- No Simple goes on with an arrow that stands in no bracket, with `()`, or with a fourth type in parentheses.
abbrev pub leaves : TypeState → TypeSymbol → Bool
leaves type type_symbol.Arrow = is_nil type.frames
leaves type type_symbol.Comma = is_full type.frames
leaves type type_symbol.CloseRound = is_alone type.frames && is_type_begin type.tail
leaves type _ = false

-- A Simple goes on.
abbrev pub type_goes_on : TypeState → TypeSymbol → Bool
type_goes_on type symbol = not (leaves type symbol) && types.admits type symbol

abbrev pub is_simple : TypeState → Bool
is_simple type = is_nil type.frames && (is_nil type.heads && types.is_whole type.tail)

abbrev pub admits_typed : List Frame → TypeState → Lexeme → Bool
admits_typed frames type x = type_goes_on type (type_symbol_of x) || (is_simple type && may_end (symbol_of x.kind x.word) frames x)

abbrev pub admits_at : Current → List Frame → Option Earlier → Lexeme → Bool
admits_at (InType name type) frames earlier x = admits_typed frames type x
admits_at (InInfix n) frames earlier x = admits_infix (symbol_of x.kind x.word) frames earlier n x

unfoldable pub admits : State → Lexeme → Bool
admits s x = admits_at s.current s.frames s.earlier x

-- ---- the state after an admitted token; others leave it as it is

abbrev pub nothing_yet : Infix
nothing_yet = record { binder = None; operations = []; tail = Begin }

abbrev pub at_tail : List Frame → Option Earlier → Infix → Tail → State
at_tail frames earlier n tail = record {
  frames = frames;
  earlier = earlier;
  current = InInfix (record { binder = n.binder; operations = n.operations; tail = tail });
}

abbrev pub path_begun : Lexeme → Path
path_begun x = record { start = x.place.span.start; name = record { text = x.word; span = x.place.span }; qualified = false; prefix = no_kids }

abbrev pub path_longer : Path → Lexeme → Path
path_longer path x = record { start = path.start; name = record { text = x.word; span = x.place.span }; qualified = true; prefix = alone (path_term path) }

abbrev pub operated : List Frame → Option Earlier → Infix → Lexeme → State
operated frames earlier n x = record {
  frames = frames;
  earlier = earlier;
  current = InInfix (record {
    binder = n.binder;
    operations = waiting (folded n.operations (precedence x.word) (operand_at n.tail)) (record { text = x.word; span = x.place.span }) (precedence x.word) (is_right x.word);
    tail = Begin;
  });
}

abbrev pub barred : List Frame → Option Earlier → Operand → State
barred frames earlier operand = record { frames = frames; earlier = Some (then_later earlier operand); current = InInfix nothing_yet }

abbrev pub parted : List Frame → Option Tall → State
parted [] tall = record { frames = []; earlier = None; current = InInfix nothing_yet }
parted (f ∷ fs) tall = record {
  frames = record { bracket = f.bracket; count = next f.count; kids = joined f.kids tall; earlier = f.earlier; binder = f.binder; operations = f.operations } ∷ fs;
  earlier = None;
  current = InInfix nothing_yet;
}

abbrev pub group_tall : Count → Option Kids → Span → Option Tall
group_tall count.One kids span = only kids
group_tall _ kids span = node kind.TuplePat [] span span kids

abbrev pub closed_as : Bracket → Count → Option Kids → ℕ → Operand
closed_as (Group start) count kids end = record { tall = group_tall count kids (from_to start end); span = from_to start end }
closed_as (Call start name) count kids end = record { tall = node kind.CtorPat name.text name.span (from_to start end) kids; span = from_to start end }

abbrev pub emptied_as : Bracket → Option Kids → ℕ → Operand
emptied_as (Group start) kids end = leaf (codes "()") (from_to start end)
emptied_as (Call start name) kids end = record { tall = node kind.CtorPat name.text name.span (from_to start end) kids; span = from_to start end }

abbrev pub behind_frame : Frame → List Frame → Operand → State
behind_frame f fs operand = record {
  frames = fs;
  earlier = f.earlier;
  current = InInfix (record { binder = f.binder; operations = f.operations; tail = AtEnded operand });
}

abbrev pub closed : List Frame → Option Tall → ℕ → State
closed [] tall end = record { frames = []; earlier = None; current = InInfix nothing_yet }
closed (f ∷ fs) tall end = behind_frame f fs (closed_as f.bracket (next f.count) (joined f.kids tall) end)

abbrev pub emptied : List Frame → ℕ → State
emptied [] end = record { frames = []; earlier = None; current = InInfix nothing_yet }
emptied (f ∷ fs) end = behind_frame f fs (emptied_as f.bracket f.kids end)

-- an alternative ends
abbrev pub ended : Symbol → List Frame → Option Earlier → Operand → Lexeme → State
ended symbol.Comma frames earlier operand x = parted frames (with_earlier earlier operand)
ended symbol.CloseRound frames earlier operand x = closed frames (with_earlier earlier operand) x.place.span.end
ended _ frames earlier operand x = barred frames earlier operand

abbrev pub named : Tail → List Frame → Option Earlier → Infix → Lexeme → State
named Begin frames earlier n x = at_tail frames earlier n (AtPath (path_begun x) (lead_of (id_of x)))
named (AtDot path) frames earlier n x = at_tail frames earlier n (AtPath (path_longer path x) lead.Plain)
named _ frames earlier n x = if is_bar (id_of x) then barred frames earlier (infix_at n) else operated frames earlier n x

abbrev pub numbered : Tail → Lexeme → Operand
numbered (AtPath path lead) x = leaf (codes "-" ++ x.word) (from_to path.start x.place.span.end)
numbered _ x = leaf x.word x.place.span

abbrev pub type_from : Tail → List Frame → Option Earlier → Infix → State
type_from (AtWild span) frames earlier n = record { frames = frames; earlier = earlier; current = InType (record { text = codes "_"; span = span }) type_begun }
type_from (AtPath path lead) frames earlier n = record { frames = frames; earlier = earlier; current = InType path.name type_begun }
type_from tail frames earlier n = record { frames = frames; earlier = earlier; current = InInfix n }

abbrev pub binder_from : Tail → List Frame → Option Earlier → Infix → State
binder_from (AtPath path lead) frames earlier n = record {
  frames = frames;
  earlier = earlier;
  current = InInfix (record { binder = Some path.name; operations = []; tail = Begin });
}
binder_from tail frames earlier n = record { frames = frames; earlier = earlier; current = InInfix n }

abbrev pub opened_with : Bracket → Option Kids → List Frame → Option Earlier → Infix → State
opened_with bracket kids frames earlier n = record {
  frames = record { bracket = bracket; count = count.Zero; kids = kids; earlier = earlier; binder = n.binder; operations = n.operations } ∷ frames;
  earlier = None;
  current = InInfix nothing_yet;
}

abbrev pub opened : Tail → List Frame → Option Earlier → Infix → ℕ → State
opened (AtPath path lead) frames earlier n start = opened_with (Call path.start path.name) path.prefix frames earlier n
opened _ frames earlier n start = opened_with (Group start) no_kids frames earlier n

abbrev pub closed_at : Tail → List Frame → Option Earlier → Infix → ℕ → State
closed_at Begin frames earlier n end = emptied frames end
closed_at _ frames earlier n end = closed frames (with_earlier earlier (infix_at n)) end

abbrev pub dotted : Tail → List Frame → Option Earlier → Infix → State
dotted (AtPath path lead) frames earlier n = at_tail frames earlier n (AtDot path)
dotted tail frames earlier n = record { frames = frames; earlier = earlier; current = InInfix n }

abbrev pub advanced_infix : Symbol → List Frame → Option Earlier → Infix → Lexeme → State
advanced_infix symbol.Id frames earlier n x = named n.tail frames earlier n x
advanced_infix symbol.Number frames earlier n x = at_tail frames earlier n (AtEnded (numbered n.tail x))
advanced_infix symbol.Literal frames earlier n x = at_tail frames earlier n (AtEnded (leaf x.word x.place.span))
advanced_infix symbol.Underscore frames earlier n x = at_tail frames earlier n (AtWild x.place.span)
advanced_infix symbol.Colon frames earlier n x = type_from n.tail frames earlier n
advanced_infix symbol.At frames earlier n x = binder_from n.tail frames earlier n
advanced_infix symbol.OpenRound frames earlier n x = opened n.tail frames earlier n x.place.span.start
advanced_infix symbol.CloseRound frames earlier n x = closed_at n.tail frames earlier n x.place.span.end
advanced_infix symbol.Comma frames earlier n x = parted frames (with_earlier earlier (infix_at n))
advanced_infix symbol.Dot frames earlier n x = dotted n.tail frames earlier n
advanced_infix symbol.Other frames earlier n x = record { frames = frames; earlier = earlier; current = InInfix n }

abbrev pub advanced_typed : List Frame → Option Earlier → Name → TypeState → Lexeme → State
advanced_typed frames earlier name type x =
    if type_goes_on type (type_symbol_of x)
    then record { frames = frames; earlier = earlier; current = InType name (types.advanced type (type_symbol_of x) x.place.span x.word) }
    else ended (symbol_of x.kind x.word) frames earlier (typed name type) x

abbrev pub advanced_at : Current → List Frame → Option Earlier → Lexeme → State
advanced_at (InType name type) frames earlier x = advanced_typed frames earlier name type x
advanced_at (InInfix n) frames earlier x = advanced_infix (symbol_of x.kind x.word) frames earlier n x

unfoldable pub advanced : State → Lexeme → State
advanced s x = advanced_at s.current s.frames s.earlier x
