-- How a write to the lent pass comes back.
use Rattle.std.specs.Borrow.{Fml, Lends, MutBor, RattleType}
use Rattle.counting_word.specs.declared.seat.Room.{Ghosts}
use Rattle.counting_word.specs.declared.view.View.{View}
use Rattle.ask_desk.specs.declared.pass.EnginePass.{EnginePass}
use Rattle.ask_desk.specs.contracts.pass.EnginePass.{the_row}
use Rattle.ask_desk.specs.contracts.pass.Pass as pass

-- the engine's pass ends with the last value behind `pass` inside
abbrev pub LendsPass : (B : RattleType) → Ghosts B.Denot → MutBor (EnginePass B.Denot) → MutBor View → Fml
LendsPass B room engine lent = Lends (the_row B room) (pass.the_row B room) engine lent (λ view. record engine.now { pass = view })
