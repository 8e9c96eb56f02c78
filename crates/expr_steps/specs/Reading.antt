-- The reader of an expression as a machine on items.
use Rattle.std.specs.Prelude.{Bool, ◌&&◌, [], Option}
use Rattle.reading_machines.specs.Machines.{Machine}
use Rattle.source_grammar.specs.Lexemes.{Lexeme}
use Rattle.parse_parts.specs.Reading.{is_nil}
use Rattle.expr_tails.specs.declared.items.Braces.{Braces}
use Rattle.expr_tails.specs.declared.items.Built.{Built}
use Rattle.expr_tails.specs.declared.tails.Ready.{Ready}
use Rattle.expr_tails.specs.declared.states.Limit.{Limit}
use Rattle.expr_tails.specs.declared.states.State.{State}
use Rattle.expr_steps.specs.Braces.{step_braces}
use Rattle.expr_tails.specs.Ending.{fresh, is_expr, expr_at, chain_at}
use Rattle.expr_steps.specs.Steps.{step}

-- a token, or a pair of braces with what was read in it
pub data Item : Type 0 where
  OneToken : Lexeme → Item
  Pair : Braces → Item

abbrev pub stepped : State → Item → Option State
stepped s (OneToken x) = step s x
stepped s (Pair b) = step_braces s b

abbrev pub begun : Limit → State
begun limit = record { frames = []; context = fresh limit }

abbrev pub is_read : State → Bool
is_read s = is_nil s.frames && is_expr s.context

abbrev pub reader : Limit → Machine State Item
reader limit = record { start = begun limit; step = stepped; whole = is_read }

abbrev pub built_of : Ready → Built
built_of r = record { tall = r.operand.tall; free = r.free }

-- the expression that was read
abbrev pub built_at : State → Built
built_at s = built_of (expr_at s.context)

-- the Infix that was read
abbrev pub guard_at : State → Built
guard_at s = built_of (chain_at s.context.operations s.context.sign s.context.tail s.context.free)
