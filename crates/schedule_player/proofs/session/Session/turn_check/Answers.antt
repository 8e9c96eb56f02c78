use Rattle.std.proofs.Common.{◌≡◌, Bool, false, Option, Some, None, is_some, refl, sym, ◌∙◌}
use Rattle.schedule_player.proofs.Checking.{goes_on}
use Rattle.schedule_player.proofs.session.Session.turn_check.Goals as goal

none_found : {A : Type 0} (o : Option A) → is_some o ≡ false → o ≡ None
none_found None h = refl
none_found (Some x) h = cc

pub returns-in-Safe-clause-says : goal.returns-in-Safe-clause-says
returns-in-Safe-clause-says g c =
    let none = none_found c.args.self.now.found (sym c.has_found.ensures ∙ c.if-has_found.false) in
    (goes_on _ _ _ _ c.requires.in_step c.requires.checks c.requires.alone none c.in-Safe.ensures.gives.0, none)
