use Rattle.std.proofs.Common.{◌≡◌, ◌∷◌, ◌<◌, [], Some, List, length, refl, sym, ap, ◌∙◌, arith}
use Rattle.schedule_player.specs.SessionState.{SessionState}
use Rattle.schedule_player.specs.Around.{first_of}
use Rattle.schedule_player.specs.declared.outers.Outer.{Outer}
use Rattle.schedule_player.proofs.Resumes.{fewer_outers}
use Rattle.schedule_player.proofs.OnlySettling.{settles_start, settles_then}
use Rattle.schedule_player.proofs.session.Session.give_up.Goals as goal

no_first : (outers : List Outer) (outer : Outer) → outers ≡ [] → first_of outers ≡ Some outer → ⊥
no_first [] outer e h = cc
no_first (f ∷ outers) outer e h = cc

pub loop-outer-init : goal.loop-outer-init
loop-outer-init g c = record { in_step = c.requires.in_step; settles = settles_start _; none = λ h. refl }

pub give_up_top-requires-clause-in_step : goal.give_up_top-requires-clause-in_step
give_up_top-requires-clause-in_step g c = c.loop-outer.invariant.in_step

pub loop-outer-smaller : goal.loop-outer-smaller
loop-outer-smaller g c = let less = fewer_outers c.loop-outer.self.outers c.in-Some.outer (sym c.top.ensures ∙ c.in-Some.is) in omega (arith, ap length c.give_up_top.ensures.outers)

pub loop-outer-preserved : goal.loop-outer-preserved
loop-outer-preserved g c = record { in_step = c.give_up_top.ensures.in_step; settles = settles_then c.loop-outer.invariant.settles c.give_up_top.ensures.settles; none = λ h. absurd (no_first _ _ (ap {A = SessionState} (λ s. s.outers) (c.loop-outer.invariant.none h) ∙ h) (sym c.top.ensures ∙ c.in-Some.is)) }

pub returns-clause-in_step : goal.returns-clause-in_step
returns-clause-in_step g c = c.loop-outer.invariant.in_step

pub returns-clause-settles : goal.returns-clause-settles
returns-clause-settles g c = c.loop-outer.invariant.settles

pub returns-clause-none : goal.returns-clause-none
returns-clause-none g c = c.loop-outer.invariant.none
