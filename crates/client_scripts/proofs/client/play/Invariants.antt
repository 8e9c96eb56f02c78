use Rattle.std.proofs.Common.{take}
use Rattle.client_scripts.specs.Holding.{IsPlaying}
use Rattle.client_scripts.proofs.client.play.Given as goal

abbrev pub invariant-loop-at : goal.invariant-loop-at
invariant-loop-at g l = IsPlaying g.P.ClientPass.number_of (g.P.ClientPass.state l.initial.pass).number l.lines (take l.at l.lines) (g.P.ClientPass.state l.pass) l.client
