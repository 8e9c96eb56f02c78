use Rattle.std.proofs.Common.{◌≡◌, ◌+◌, ◌≤◌, ◌<◌, ◌-◌, ℕ, true, false, refl, sym, ap, ◌∙◌, subst, arith}
use Rattle.ask_history.specs.Journal.{findings}
use Rattle.schedule_player.specs.Around.{asks_of, top_work}
use Rattle.schedule_player.specs.Steps.{IsOfChecks}
use Rattle.schedule_player.specs.InStep.{ChecksInStep}
use Rattle.schedule_player.specs.SessionState.{SessionState}
use Rattle.schedule_player.specs.declared.outers.Work.TheVariants.{Checks, Check, Beside}
use Rattle.schedule_player.proofs.Tellings.{told_still, told_then}
use Rattle.schedule_player.proofs.Checking.{same_journal, same_outers}
use Rattle.schedule_player.proofs.Arrivals.{reach_then, reach_still, of_checks}
use Rattle.schedule_player.proofs.Transitions.{still_found, now_is, here, none, another, no_memory, calm, new_line, alone_in}
use Rattle.schedule_player.proofs.session.Session.check_to.Goals as goal

pub loop-self-init : goal.loop-self-init
loop-self-init g c = record {
  in_step = c.requires.in_step;
  checks = c.requires.checks;
  line = c.requires.line;
  reaches = reach_still _ _ _ refl refl refl;
  told = told_still refl refl;
}

pub begins-requires-clause-in_step : goal.begins-requires-clause-in_step
begins-requires-clause-in_step g c = c.loop-self.invariant.in_step

pub begins-requires-clause-checks : goal.begins-requires-clause-checks
begins-requires-clause-checks g c = c.loop-self.invariant.checks

pub begins-requires-clause-alone : goal.begins-requires-clause-alone
begins-requires-clause-alone g c = alone_in c.loop-self.self c.loop-self.invariant.in_step (of_checks c.loop-self.self.outers c.loop-self.next c.loop-self.invariant.line)

pub returns-in_err-begins-clause-reaches : goal.returns-in_err-begins-clause-reaches
returns-in_err-begins-clause-reaches g c =
    reach_then _ _ c.loop-self.self _ c.loop-self.invariant.reaches (still_found _ _ _ c.begins.ensures.same)

pub returns-in_err-begins-clause-told : goal.returns-in_err-begins-clause-told
returns-in_err-begins-clause-told g c = told_then c.loop-self.invariant.told (told_still (ap (findings g.N.Engine.problems_of) (same_journal c.begins.ensures.same)) refl)

pub returns-then-from-next-clause-in_step : goal.returns-then-from-next-clause-in_step
returns-then-from-next-clause-in_step g c =
    calm c.begins.new.self _ (Check c.args.number 0) c.begins.ensures.in_step (now_is c.args.number c.loop-self.next c.loop-self.self c.begins.new.self c.begins.new.self c.loop-self.invariant.line c.begins.ensures.same) (tt {0}) c.set_work.ensures

pub returns-then-from-next-clause-reaches : goal.returns-then-from-next-clause-reaches
returns-then-from-next-clause-reaches g c =
    reach_then _ _ c.loop-self.self _ c.loop-self.invariant.reaches
    (here c.args.number c.loop-self.next c.loop-self.self c.begins.new.self _ c.loop-self.invariant.line c.begins.ensures.same c.set_work.ensures
    (subst (λ n. n ≤ c.loop-self.next) c.from.ensures c.if-from-next.true) (sym c.in_ok-begins.ensures.begins ∙ c.if-branch.true))

pub returns-then-from-next-clause-told : goal.returns-then-from-next-clause-told
returns-then-from-next-clause-told g c =
    told_then c.loop-self.invariant.told (told_still (ap {A = SessionState} (λ s. findings g.N.Engine.problems_of s.journal) c.set_work.ensures ∙ ap (findings g.N.Engine.problems_of) (same_journal c.begins.ensures.same)) refl)

pub check-requires-clause-alone : goal.check-requires-clause-alone
check-requires-clause-alone g c = alone_in c.begins.new.self c.begins.ensures.in_step (now_is c.args.number c.loop-self.next c.loop-self.self c.begins.new.self c.begins.new.self c.loop-self.invariant.line c.begins.ensures.same)

pub returns-in_err-check-clause-reaches : goal.returns-in_err-check-clause-reaches
returns-in_err-check-clause-reaches g c =
    reach_then _ _ c.loop-self.self _ c.loop-self.invariant.reaches
    (no_memory c.args.number c.loop-self.next c.loop-self.self c.begins.new.self _ c.loop-self.invariant.line c.begins.ensures.same c.check.ensures.same c.in_err-check.ensures.err)

pub returns-in_err-check-clause-told : goal.returns-in_err-check-clause-told
returns-in_err-check-clause-told g c =
    told_then c.loop-self.invariant.told (told_then (told_still (ap (findings g.N.Engine.problems_of) (same_journal c.begins.ensures.same)) refl) c.check.ensures.told)

pub loop-self-preserved : goal.loop-self-preserved
loop-self-preserved g c =
    let is = now_is c.args.number c.loop-self.next c.loop-self.self c.begins.new.self c.begins.new.self c.loop-self.invariant.line c.begins.ensures.same in
    let checked_is = subst (λ fs. IsOfChecks (top_work fs)) (sym c.check.ensures.same.outers) is in
    record {
      in_step = calm c.check.new.self _ (Checks (c.loop-self.next + 1)) c.check.ensures.in_step checked_is (tt {0}) c.set_work-in-loop-self.ensures;
      checks = let k = c.in_ok-check.ensures.checks in subst (λ s. ChecksInStep g.N.Engine.problems_of s (g.N.Engine.state c.check.new.engine)) (sym c.set_work-in-loop-self.ensures) (record { skipped = k.skipped; ahead = k.ahead });
      line = new_line c.check.new.self _ (Checks (c.loop-self.next + 1)) checked_is c.set_work-in-loop-self.ensures;
      reaches = reach_then _ _ c.loop-self.self _ c.loop-self.invariant.reaches
          (another c.args.number c.loop-self.next c.loop-self.self c.begins.new.self _ c.loop-self.invariant.line c.begins.ensures.same c.check.new.self c.check.ensures.same c.in_ok-check.ensures.done c.set_work-in-loop-self.ensures
          (let below = c.if-from-next.false in omega (arith, c.from.ensures)) (sym c.in_ok-begins.ensures.begins ∙ c.if-branch.true));
      told = told_then c.loop-self.invariant.told (told_then (told_still (ap (findings g.N.Engine.problems_of) (same_journal c.begins.ensures.same)) refl)
          (told_then c.check.ensures.told (told_still (ap {A = SessionState} (λ s. findings g.N.Engine.problems_of s.journal) c.set_work-in-loop-self.ensures) refl)));
    }

pub returns-clause-in_step : goal.returns-clause-in_step
returns-clause-in_step g c =
    calm c.begins.new.self _ Beside c.begins.ensures.in_step (now_is c.args.number c.loop-self.next c.loop-self.self c.begins.new.self c.begins.new.self c.loop-self.invariant.line c.begins.ensures.same) (tt {0}) c.set_work-2.ensures

pub returns-clause-reaches : goal.returns-clause-reaches
returns-clause-reaches g c =
    reach_then _ _ c.loop-self.self _ c.loop-self.invariant.reaches
    (none c.args.number c.loop-self.next c.loop-self.self c.begins.new.self _ c.loop-self.invariant.line c.begins.ensures.same c.set_work-2.ensures (sym c.in_ok-begins.ensures.begins ∙ c.if-branch.false))

pub returns-clause-told : goal.returns-clause-told
returns-clause-told g c =
    told_then c.loop-self.invariant.told (told_still (ap {A = SessionState} (λ s. findings g.N.Engine.problems_of s.journal) c.set_work-2.ensures ∙ ap (findings g.N.Engine.problems_of) (same_journal c.begins.ensures.same)) refl)
