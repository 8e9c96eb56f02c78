use Rattle.std.proofs.Common.{◌≡◌, refl, sym, ap, ◌∙◌, subst}
use Rattle.ask_history.specs.Journal.{findings}
use Rattle.schedule_player.specs.SessionState.{SessionState, fresh_session}
use Rattle.schedule_player.specs.Steps.{IsPlayed}
use Rattle.schedule_player.specs.declared.played.Played.{Played}
use Rattle.schedule_player.proofs.Tellings.{told_still, told_then, told_from}
use Rattle.schedule_player.proofs.OnlySettling.{settles_find_nothing}
use Rattle.schedule_player.proofs.Owing.{owes_nothing, owes_played, on_ok}
use Rattle.schedule_player.proofs.playing.play.Goals as goal

pub returns-in-Err-clause-owed : goal.returns-in-Err-clause-owed
returns-in-Err-clause-owed g c = owes_nothing g.N.Engine.answer_of g.N.Engine.problems_of c.args.lines _ _ c.nothing.ensures c.requires.fresh

pub returns-in-Err-clause-told : goal.returns-in-Err-clause-told
returns-in-Err-clause-told g c =
    told_from (λ b. (goal.Reporter-dyn g (b.vtable, b.value)).told b.value) (λ b. (goal.Reporter-dyn g (b.vtable, b.value)).faults b.value) _ _ _
    (told_still (ap {A = Played} (λ p. findings g.N.Engine.problems_of p.journal.events) c.nothing.ensures) refl)

pub returns-clause-owed : goal.returns-clause-owed
returns-clause-owed g c =
    owes_played g.N.Engine.answer_of g.N.Engine.problems_of c.args.lines c.into_played.result c.play_lines.new.self c.give_up.new.self _ _ c.play_lines.ensures.in_step c.play_lines.ensures.cut
    (λ h. on_ok c.play_lines.result (IsPlayed c.args.lines c.play_lines.new.self) c.play_lines.ensures.whole (sym c.is_ok-whole.ensures.value ∙ sym c.into_played.ensures.whole ∙ h))
    c.give_up.ensures.in_step c.give_up.ensures.outers c.give_up.ensures.settles c.give_up.ensures.none c.into_played.ensures.journal c.into_played.ensures.answers c.into_played.ensures.problems

pub returns-clause-told : goal.returns-clause-told
returns-clause-told g c =
    told_from (λ b. (goal.Reporter-dyn g (b.vtable, b.value)).told b.value) (λ b. (goal.Reporter-dyn g (b.vtable, b.value)).faults b.value) _ _ _
    (told_then (told_still (ap {A = SessionState} (λ s. findings g.N.Engine.problems_of s.journal) c.in-Ok.ensures) refl)
    (told_then c.play_lines.ensures.told
    (told_still (ap (findings g.N.Engine.problems_of) c.into_played.ensures.journal ∙ settles_find_nothing g.N.Engine.problems_of _ _ c.give_up.ensures.settles) refl)))
