use Rattle.std.proofs.Common.{◌≡◌, true, false, length, refl, sym, ap, ◌∙◌, subst, arith, ◌+◌, ◌≤◌}
use Rattle.ask_history.specs.Checks.{due, check_begins}
use Rattle.ask_history.specs.Journal.{all_settled}
use Rattle.schedule_player.specs.Around.{asks_of}
use Rattle.schedule_player.proofs.Tellings.{told_still, told_then}
use Rattle.schedule_player.proofs.Checking.{settled_alone, held_alone}
use Rattle.schedule_player.proofs.CheckRuns.{checks_start, checks_more, checks_last, checks_still, same_but_checks, fewer, no_check}
use Rattle.schedule_player.proofs.session.Session.check_all.Goals as goal

pub loop-init : goal.loop-init
loop-init g c = record {
  in_step = c.requires.in_step;
  checks = c.requires.checks;
  same = record { outers = refl; tickets = refl; closed = refl };
  goes_on = checks_start _;
  told = told_still refl refl;
}

pub check-requires-clause-in_step : goal.check-requires-clause-in_step
check-requires-clause-in_step g c = c.loop.invariant.in_step

pub check-requires-clause-checks : goal.check-requires-clause-checks
check-requires-clause-checks g c = c.loop.invariant.checks

pub check-requires-clause-alone : goal.check-requires-clause-alone
check-requires-clause-alone g c = ap asks_of c.loop.invariant.same.outers ∙ c.requires.alone

pub returns-in_err-check-clause-same : goal.returns-in_err-check-clause-same
returns-in_err-check-clause-same g c = same_but_checks c.loop.invariant.same c.check.ensures.same

pub returns-in_err-check-clause-goes_on : goal.returns-in_err-check-clause-goes_on
returns-in_err-check-clause-goes_on g c = checks_still _ _ _ c.loop.invariant.goes_on c.in_err-check.ensures.err

pub returns-in_err-check-clause-told : goal.returns-in_err-check-clause-told
returns-in_err-check-clause-told g c = told_then c.loop.invariant.told c.check.ensures.told

pub loop-smaller : goal.loop-smaller
loop-smaller g c =
    let less = fewer c.loop.self.journal (sym c.in_ok-check.ensures.begun ∙ c.if-branch.true) in
    omega (arith, ap (λ js. length (due js)) c.in_ok-check.ensures.done)

pub loop-preserved : goal.loop-preserved
loop-preserved g c = record {
  in_step = c.check.ensures.in_step;
  checks = c.in_ok-check.ensures.checks;
  same = same_but_checks c.loop.invariant.same c.check.ensures.same;
  goes_on = checks_more _ _ _ c.loop.invariant.goes_on (sym c.in_ok-check.ensures.begun ∙ c.if-branch.true) c.in_ok-check.ensures.done;
  told = told_then c.loop.invariant.told c.check.ensures.told;
}

pub returns-clause-same : goal.returns-clause-same
returns-clause-same g c = same_but_checks c.loop.invariant.same c.check.ensures.same

pub returns-clause-goes_on : goal.returns-clause-goes_on
returns-clause-goes_on g c =
    checks_last _ _ _ c.loop.invariant.goes_on
    (settled_alone _ (held_alone _ _ _ _ c.loop.invariant.in_step c.loop.invariant.checks (ap asks_of c.loop.invariant.same.outers ∙ c.requires.alone)))
    (sym c.in_ok-check.ensures.begun ∙ c.if-branch.false) c.in_ok-check.ensures.done

pub returns-clause-over : goal.returns-clause-over
returns-clause-over g c =
    ap check_begins (c.in_ok-check.ensures.done ∙ no_check c.loop.self.journal
    (settled_alone _ (held_alone _ _ _ _ c.loop.invariant.in_step c.loop.invariant.checks (ap asks_of c.loop.invariant.same.outers ∙ c.requires.alone)))
    (sym c.in_ok-check.ensures.begun ∙ c.if-branch.false))
    ∙ sym c.in_ok-check.ensures.begun ∙ c.if-branch.false

pub returns-clause-told : goal.returns-clause-told
returns-clause-told g c = told_then c.loop.invariant.told c.check.ensures.told
