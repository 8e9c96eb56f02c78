use Rattle.std.proofs.Common.{◌≡◌, ◌≤◌, ◌<◌, length, refl, sym, ap, ◌∙◌, subst, arith}
use Rattle.schedule_player.proofs.Tellings.{told_still, told_then}
use Rattle.schedule_player.proofs.Resumes.{ends_start, ends_then, ends_one, keeps_one, fewer_outers, at_least}
use Rattle.schedule_player.proofs.session.Session.finish_to.Goals as goal

pub loop-outer-init : goal.loop-outer-init
loop-outer-init g c = record { in_step = c.requires.in_step; checks = c.requires.checks; ends = ends_start _ _; told = told_still refl refl }

pub finish-requires-clause-in_step : goal.finish-requires-clause-in_step
finish-requires-clause-in_step g c = c.loop-outer.invariant.in_step

pub finish-requires-clause-checks : goal.finish-requires-clause-checks
finish-requires-clause-checks g c = c.loop-outer.invariant.checks

pub loop-outer-smaller : goal.loop-outer-smaller
loop-outer-smaller g c = let less = fewer_outers c.loop-outer.self.outers c.in-Some.outer (sym c.top.ensures ∙ c.in-Some.is) in omega (arith, ap length c.in_ok-finish.ensures.ends.outers)

pub loop-outer-preserved : goal.loop-outer-preserved
loop-outer-preserved g c = record {
  in_step = c.finish.ensures.in_step;
  checks = c.in_ok-finish.ensures.checks;
  ends = ends_then c.loop-outer.invariant.ends (ends_one c.args.level c.loop-outer.self _ c.in-Some.outer (sym c.top.ensures ∙ c.in-Some.is) (at_least c.in-Some.outer.level c.args.level (let h = c.if-outer-level.false in omega arith)) c.in_ok-finish.ensures.ends);
  told = told_then c.loop-outer.invariant.told c.finish.ensures.told;
}

pub returns-in_err-finish-clause-ends : goal.returns-in_err-finish-clause-ends
returns-in_err-finish-clause-ends g c =
    ends_then c.loop-outer.invariant.ends (keeps_one c.args.level c.loop-outer.self _ c.in-Some.outer (sym c.top.ensures ∙ c.in-Some.is) (at_least c.in-Some.outer.level c.args.level (let h = c.if-outer-level.false in omega arith)) c.in_err-finish.ensures.keeps)

pub returns-in_err-finish-clause-told : goal.returns-in_err-finish-clause-told
returns-in_err-finish-clause-told g c = told_then c.loop-outer.invariant.told c.finish.ensures.told

pub returns-then-outer-level-clause-in_step : goal.returns-then-outer-level-clause-in_step
returns-then-outer-level-clause-in_step g c = c.loop-outer.invariant.in_step

pub returns-then-outer-level-clause-checks : goal.returns-then-outer-level-clause-checks
returns-then-outer-level-clause-checks g c = c.loop-outer.invariant.checks

pub returns-then-outer-level-clause-ends : goal.returns-then-outer-level-clause-ends
returns-then-outer-level-clause-ends g c = c.loop-outer.invariant.ends

pub returns-then-outer-level-clause-told : goal.returns-then-outer-level-clause-told
returns-then-outer-level-clause-told g c = c.loop-outer.invariant.told

pub returns-in_default-clause-in_step : goal.returns-in_default-clause-in_step
returns-in_default-clause-in_step g c = c.loop-outer.invariant.in_step

pub returns-in_default-clause-checks : goal.returns-in_default-clause-checks
returns-in_default-clause-checks g c = c.loop-outer.invariant.checks

pub returns-in_default-clause-ends : goal.returns-in_default-clause-ends
returns-in_default-clause-ends g c = c.loop-outer.invariant.ends

pub returns-in_default-clause-told : goal.returns-in_default-clause-told
returns-in_default-clause-told g c = c.loop-outer.invariant.told
