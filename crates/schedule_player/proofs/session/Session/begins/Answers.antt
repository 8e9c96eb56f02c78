use Rattle.std.proofs.Common.{◌≡◌, sym, ◌∙◌, subst}
use Rattle.ask_history.specs.Checks.{due}
use Rattle.schedule_player.specs.Steps.{Says}
use Rattle.schedule_player.proofs.Checking.{begins_yes}
use Rattle.schedule_player.proofs.session.Session.begins.Goals as goal

pub returns-in-GoesOn-clause-begins : goal.returns-in-GoesOn-clause-begins
returns-in-GoesOn-clause-begins g c = sym (begins_yes _ _ _ _ c.requires.in_step c.requires.checks c.requires.alone (sym c.is_closed.ensures ∙ c.if-is_closed.false)
    (subst (λ s. Says s (due c.args.self.now.journal) c.turn_check.new.self.found) c.in-GoesOn.is c.in_ok-turn_check.ensures.says).0)

pub returns-in-Found-clause-begins : goal.returns-in-Found-clause-begins
returns-in-Found-clause-begins g c = sym (begins_yes _ _ _ _ c.requires.in_step c.requires.checks c.requires.alone (sym c.is_closed.ensures ∙ c.if-is_closed.false)
    (subst (λ s. Says s (due c.args.self.now.journal) c.turn_check.new.self.found) c.in-Found.is c.in_ok-turn_check.ensures.says).0)
