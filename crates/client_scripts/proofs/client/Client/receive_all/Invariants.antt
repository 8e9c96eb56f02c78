use Rattle.std.proofs.Common.{◌≡◌, true, length, take}
use Rattle.std.specs.List.{list_all}
use Rattle.client_scripts.specs.Holding.{IsHolding, Rests, is_had}
use Rattle.client_scripts.proofs.client.Client.receive_all.Given as goal

abbrev pub invariant-loop-index : goal.invariant-loop-index
invariant-loop-index g l = record {
  holding : IsHolding g.P.ClientPass.number_of (g.P.ClientPass.state l.pass) l.self.held.items;
  had : list_all is_had (take l.index l.self.held.items) ≡ true;
  size : length l.self.held.items ≡ length l.initial.self.held.items;
  rests : Rests (g.P.ClientPass.state l.initial.pass) (record (g.P.ClientPass.state l.pass) { got = (g.P.ClientPass.state l.initial.pass).got });
}
