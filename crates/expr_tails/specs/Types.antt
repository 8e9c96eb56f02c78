-- The machine of types inside that of expressions.
use Rattle.std.specs.Prelude.{Bool, false, ◌&&◌, Option}
use Rattle.parse_parts.specs.declared.built.Tall.{Tall}
use Rattle.parse_parts.specs.declared.states.Tail.{Tail as TypeTail}
use Rattle.parse_parts.specs.declared.states.Tail.TheVariants as type_tail
use Rattle.parse_parts.specs.declared.states.State.{State as TypeState}
use Rattle.parse_parts.specs.declared.symbols.Symbol.{Symbol as TypeSymbol}
use Rattle.parse_parts.specs.Reading.{is_nil}
use Rattle.parse_parts.specs.Steps as types
use Rattle.parse_parts.specs.Steps.{is_dot}
use Rattle.parse_patterns.specs.Steps.{type_goes_on}
use Rattle.expr_tails.specs.declared.states.Limit.{Limit}
use Rattle.expr_tails.specs.declared.states.Limit.TheVariants as limit
use Rattle.expr_tails.specs.declared.states.Tail.{Tail}
use Rattle.expr_tails.specs.declared.states.Tail.TheVariants as tail

abbrev pub is_type : TypeState → Bool
is_type ty = is_nil ty.frames && types.is_whole ty.tail

-- a type and the `.` after it, which no name follows yet
abbrev pub is_type_and_dot : TypeState → Bool
is_type_and_dot ty = is_nil ty.frames && is_dot ty.tail

-- The token is one more of the type after `new`. In the guard of a case an arrow is none, since it is the case's.
abbrev pub new_goes_on : Limit → TypeState → TypeSymbol → Bool
new_goes_on limit.CaseGuard ty s = type_goes_on ty s
new_goes_on _ ty s = types.admits ty s

-- the tail is at the machine of types, and this admits the token
abbrev pub type_takes : Limit → Tail → TypeSymbol → Bool
type_takes limit (tail.InNew start end ty) s = new_goes_on limit ty s
type_takes limit (tail.InTypes begun ty) s = types.admits ty s
type_takes limit (tail.InTyped of ty) s = types.admits ty s
type_takes limit _ s = false

abbrev pub type_of : TypeState → Option Tall
type_of ty = types.type_at ty.heads ty.tail

abbrev pub tail_before_dot : TypeTail → TypeTail
tail_before_dot (type_tail.AtDot path) = type_tail.AtPath path
tail_before_dot at = at

abbrev pub before_dot : TypeState → TypeState
before_dot ty = record { frames = ty.frames; heads = ty.heads; tail = tail_before_dot ty.tail }
