use Rattle.std.proofs.Common.{◌≡◌, ◌++◌, ◌∷◌, [], false, true, Some, None, IsTrue, refl, sym, ap, ◌∙◌, subst}
use Rattle.ask_history.specs.Legal.{may_follow}
use Rattle.ask_history.specs.Journal.{findings}
use Rattle.ask_history.specs.declared.events.Event.TheVariants.{Checked}
use Rattle.schedule_player.specs.Around.{asks_of}
use Rattle.schedule_player.specs.SessionState.{SessionState}
use Rattle.schedule_player.proofs.Same.{in_step_at, checks_at}
use Rattle.schedule_player.proofs.Tellings.{told_still, told_one}
use Rattle.schedule_player.proofs.Checking.{same_journal, same_closed, same_outers, may_note, noted_in_step, noted_checks_in_step, noted_findings, begins_yes}
use Rattle.schedule_player.proofs.session.Session.check.Goals as goal

pub returns-in_err-finds-clause-told : goal.returns-in_err-finds-clause-told
returns-in_err-finds-clause-told g c = told_still (ap (findings g.N.Engine.problems_of) (same_journal c.finds.ensures.same)) refl

pub returns-then-not-branch-clause-told : goal.returns-then-not-branch-clause-told
returns-then-not-branch-clause-told g c = told_still (ap (findings g.N.Engine.problems_of) (same_journal c.finds.ensures.same)) refl

pub note-requires : goal.note-requires
note-requires g c =
    subst (λ (s : SessionState). IsTrue (may_follow s.journal (Checked c.in-Some.found.file))) (sym c.take_found.ensures.session)
    (may_note _ _ c.finds.new.self _ c.finds.ensures.in_step c.in_ok-finds.ensures.checks (ap asks_of (same_outers c.finds.ensures.same) ∙ c.requires.alone)
    (same_closed c.finds.ensures.same ∙ sym c.is_closed.ensures ∙ c.if-is_closed.false) c.in-Some.found (sym c.take_found.ensures.found ∙ c.in-Some.is))

pub returns-in_err-note-in-Some-clause-told : goal.returns-in_err-note-in-Some-clause-told
returns-in_err-note-in-Some-clause-told g c =
    told_still (ap {A = SessionState} (λ s. findings g.N.Engine.problems_of s.journal) (c.in_err-note-in-Some.ensures.err ∙ c.take_found.ensures.session) ∙ ap (findings g.N.Engine.problems_of) (same_journal c.finds.ensures.same))
    c.in_err-note-in-Some.ensures.untold

pub returns-in_ok-note-in-Some-clause-in_step : goal.returns-in_ok-note-in-Some-clause-in_step
returns-in_ok-note-in-Some-clause-in_step g c =
    in_step_at (c.in_ok-note-in-Some.ensures.ok ∙ ap {A = SessionState} (λ s. record s { journal = s.journal ++ Checked c.in-Some.found.file ∷ []; problems = s.problems ++ c.in-Some.found.problems ∷ [] }) c.take_found.ensures.session) refl
    (noted_in_step _ _ c.finds.new.self _ c.finds.ensures.in_step c.in_ok-finds.ensures.checks (ap asks_of (same_outers c.finds.ensures.same) ∙ c.requires.alone)
    (same_closed c.finds.ensures.same ∙ sym c.is_closed.ensures ∙ c.if-is_closed.false) c.in-Some.found (sym c.take_found.ensures.found ∙ c.in-Some.is))

pub returns-in_ok-note-in-Some-clause-checks : goal.returns-in_ok-note-in-Some-clause-checks
returns-in_ok-note-in-Some-clause-checks g c =
    checks_at (c.in_ok-note-in-Some.ensures.ok ∙ ap {A = SessionState} (λ s. record s { journal = s.journal ++ Checked c.in-Some.found.file ∷ []; problems = s.problems ++ c.in-Some.found.problems ∷ [] }) c.take_found.ensures.session) refl
    (noted_checks_in_step _ _ c.finds.new.self _ c.finds.ensures.in_step c.in_ok-finds.ensures.checks (ap asks_of (same_outers c.finds.ensures.same) ∙ c.requires.alone)
    (same_closed c.finds.ensures.same ∙ sym c.is_closed.ensures ∙ c.if-is_closed.false) c.in-Some.found (sym c.take_found.ensures.found ∙ c.in-Some.is))

pub returns-in_ok-note-in-Some-clause-begun : goal.returns-in_ok-note-in-Some-clause-begun
returns-in_ok-note-in-Some-clause-begun g c =
    sym (begins_yes _ _ _ _ c.requires.in_step c.requires.checks c.requires.alone (sym c.is_closed.ensures ∙ c.if-is_closed.false) (sym c.in_ok-finds.ensures.due ∙ c.if-not-branch.false))

pub returns-in_ok-note-in-Some-clause-told : goal.returns-in_ok-note-in-Some-clause-told
returns-in_ok-note-in-Some-clause-told g c =
    told_one (c.in-Some.found.file, c.in-Some.found.problems)
    (ap {A = SessionState} (λ s. findings g.N.Engine.problems_of s.journal) (c.in_ok-note-in-Some.ensures.ok ∙ ap {A = SessionState} (λ s. record s { journal = s.journal ++ Checked c.in-Some.found.file ∷ []; problems = s.problems ++ c.in-Some.found.problems ∷ [] }) c.take_found.ensures.session)
    ∙ noted_findings _ _ c.finds.new.self _ c.finds.ensures.in_step c.in_ok-finds.ensures.checks (ap asks_of (same_outers c.finds.ensures.same) ∙ c.requires.alone)
    (same_closed c.finds.ensures.same ∙ sym c.is_closed.ensures ∙ c.if-is_closed.false) c.in-Some.found (sym c.take_found.ensures.found ∙ c.in-Some.is)
    ∙ ap (λ fs. fs ++ (c.in-Some.found.file, c.in-Some.found.problems) ∷ []) (ap (findings g.N.Engine.problems_of) (same_journal c.finds.ensures.same)))
    refl c.in_ok-note-in-Some.ensures.told
