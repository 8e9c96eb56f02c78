use Rattle.std.proofs.Common.{inl}
use Rattle.client_scripts.proofs.Held.{due_at, cancels_had}
use Rattle.client_scripts.proofs.client.Client.cancel.Goals as goal

pub cancel-requires : goal.cancel-requires
cancel-requires g c = (due_at g.P.ClientPass.number_of _ _ _ _ c.in-Due.ticket c.requires.holding c.requires.there c.index.ensures c.in-Due.is).1

pub returns-in-Due : goal.returns-in-Due
returns-in-Due g c = record {
  ticket = g.P.ClientPass.number_of c.in-Due.ticket;
  is = (due_at g.P.ClientPass.number_of _ _ _ _ c.in-Due.ticket c.requires.holding c.requires.there c.index.ensures c.in-Due.is).0;
  done = inl c.cancel.ensures;
}

pub returns-in-Had : goal.returns-in-Had
returns-in-Had g c = cancels_had g.P.ClientPass.number_of _ _ _ _ c.in-Had.field-0 c.requires.holding c.requires.there c.index.ensures c.in-Had.is
