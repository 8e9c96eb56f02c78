use Rattle.std.proofs.Common.{◌≡◌, refl, sym, ap, ◌∙◌, subst}
use Rattle.ask_history.specs.Journal.{findings}
use Rattle.schedule_player.specs.Steps.{PassesOver}
use Rattle.schedule_player.specs.SessionState.{SessionState}
use Rattle.schedule_player.proofs.Tellings.{told_still, told_then}
use Rattle.schedule_player.proofs.LinePlays.{passed_plays, after_ends, after_reach, ends_keep, reach_keep, keeps_same, keeps_then}
use Rattle.schedule_player.proofs.session.Session.play_line.Goals as goal

pub returns-in_err-pass_over-clause-told : goal.returns-in_err-pass_over-clause-told
returns-in_err-pass_over-clause-told g c = told_then c.finish_to.ensures.told (told_still (ap {A = SessionState} (λ s. findings g.N.Engine.problems_of s.journal) c.in_err-pass_over.ensures) refl)

pub returns-then-is_passing_over-clause-plays : goal.returns-then-is_passing_over-clause-plays
returns-then-is_passing_over-clause-plays g c =
    after_ends c.args.line c.args.self.now c.finish_to.new.self _ c.finish_to.ensures.ends
    (passed_plays c.args.line c.finish_to.new.self _ (c.is_passing_over.ensures.passed c.if-is_passing_over.true) c.in_ok-finish_to.ensures.under
    (ap {A = SessionState} (λ s. s.outers) c.in_ok-pass_over.ensures.0) (ap {A = SessionState} (λ s. s.journal) c.in_ok-pass_over.ensures.0) c.in_ok-pass_over.ensures.1)

pub returns-then-is_passing_over-clause-told : goal.returns-then-is_passing_over-clause-told
returns-then-is_passing_over-clause-told g c = told_then c.finish_to.ensures.told (told_still (ap {A = SessionState} (λ s. findings g.N.Engine.problems_of s.journal) c.in_ok-pass_over.ensures.0) refl)

pub returns-in_err-arrive-clause-told : goal.returns-in_err-arrive-clause-told
returns-in_err-arrive-clause-told g c = told_then c.finish_to.ensures.told c.arrive.ensures.told

pub returns-in-Ok-clause-told : goal.returns-in-Ok-clause-told
returns-in-Ok-clause-told g c = told_then c.finish_to.ensures.told (told_then c.arrive.ensures.told (told_still c.play_at.ensures.found refl))

pub returns-in-Err-clause-told : goal.returns-in-Err-clause-told
returns-in-Err-clause-told g c = told_then c.finish_to.ensures.told (told_then c.arrive.ensures.told (told_still c.play_at.ensures.found refl))
