-- The reader of types as a machine on lexemes.
use Rattle.std.specs.Prelude.{◌≡◌, ℕ, Bool, true, false, ◌&&◌, ◌∷◌, if◌then◌else◌, List, [], Option, Some, None}
use Rattle.reading_machines.specs.Machines.{Machine, run, reading_of}
use Rattle.reading_machines.specs.Parts.{anything}
use Rattle.source_grammar.specs.Lexemes.{Lexeme}
use Rattle.parse_parts.specs.declared.states.Tail.TheVariants.{Begin}
use Rattle.parse_parts.specs.declared.states.State.{State}
use Rattle.parse_parts.specs.Steps.{admits, advanced, is_whole}
use Rattle.parse_parts.specs.Symbols.{symbol_of}

abbrev pub begun : State
begun = record { frames = []; heads = []; tail = Begin }

abbrev pub stepped : State → Lexeme → Option State
stepped s x = if admits s (symbol_of x.kind x.word) then Some (advanced s (symbol_of x.kind x.word) x.place.span x.word) else None

abbrev pub is_nil : {A : Type 0} → List A → Bool
is_nil [] = true
is_nil (a ∷ as_well) = false

abbrev pub reader : Machine State Lexeme
reader = record { start = begun; step = stepped; whole = λ s. is_nil s.frames && is_whole s.tail }

-- How far the reader comes in these tokens: its last state, how many of them it has read, and how many are the longest type.
abbrev pub ComesTo : List Lexeme → State → ℕ → Option ℕ → Type 0
ComesTo ts state reached best = reading_of reader anything ts ≡ record { state = state; reached = reached; best = best }

-- the state after these tokens
abbrev pub LeadsTo : List Lexeme → State → Type 0
LeadsTo ts state = run (reader).step ts (reader).start ≡ Some state
