-- The reader of patterns as a machine on lexemes.
use Rattle.std.specs.Prelude.{Bool, ◌&&◌, if◌then◌else◌, [], Option, Some, None}
use Rattle.reading_machines.specs.Machines.{Machine}
use Rattle.source_grammar.specs.Lexemes.{Lexeme}
use Rattle.parse_parts.specs.Reading.{is_nil}
use Rattle.parse_patterns.specs.declared.states.Current.{Current}
use Rattle.parse_patterns.specs.declared.states.Current.TheVariants.{InType, InInfix}
use Rattle.parse_patterns.specs.declared.states.State.{State}
use Rattle.parse_patterns.specs.Steps.{admits, advanced, is_whole, is_simple, nothing_yet}

abbrev pub begun : State
begun = record { frames = []; earlier = None; current = InInfix nothing_yet }

abbrev pub stepped : State → Lexeme → Option State
stepped s x = if admits s x then Some (advanced s x) else None

abbrev pub is_ended : Current → Bool
is_ended (InType name type) = is_simple type
is_ended (InInfix n) = is_whole n.tail

abbrev pub reader : Machine State Lexeme
reader = record { start = begun; step = stepped; whole = λ s. is_nil s.frames && is_ended s.current }
