use Rattle.std.proofs.Common.{◌≡◌, slice_index_or, None, refl, sym, ap, ◌∙◌, subst}
use Rattle.ask_history.specs.Journal.{findings}
use Rattle.schedule_player.specs.SessionState.{SessionState}
use Rattle.ask_history.specs.declared.script.Order.TheVariants as order
use Rattle.schedule_player.specs.Steps.{PlaysOrder}
use Rattle.schedule_player.proofs.Same.{in_step_at, checks_at}
use Rattle.schedule_player.proofs.Orders.{accepted_by, cancel_in_step, cancel_checks, cancel_finds, cancel_plays, wait_plays, idle_in_step, idle_plays}
use Rattle.schedule_player.proofs.Closes.{close_in_step, close_checks, close_finds, close_plays}
use Rattle.schedule_player.proofs.session.Session.play_order.Goals as goal

pub cancel-requires : goal.cancel-requires
cancel-requires g c = λ ticket h. accepted_by _ _ _ _ c.requires.in_step c.in-Cancel.number ticket (sym (c.requires.in_step.noted.numbered c.in-Cancel.number) ∙ h)

pub returns-in-Cancel-clause-in_step : goal.returns-in-Cancel-clause-in_step
returns-in-Cancel-clause-in_step g c = in_step_at c.cancel.ensures refl (cancel_in_step _ _ _ _ c.requires.in_step _)

pub returns-in-Cancel-clause-checks : goal.returns-in-Cancel-clause-checks
returns-in-Cancel-clause-checks g c = checks_at c.cancel.ensures refl (cancel_checks g.N.Engine.answer_of _ _ _ c.requires.in_step _ c.requires.checks)

pub returns-in-Cancel-clause-plays : goal.returns-in-Cancel-clause-plays
returns-in-Cancel-clause-plays g c = subst (λ o. PlaysOrder o c.args.self.now c.cancel.new.self) (sym c.in-Cancel.is) (cancel_plays c.in-Cancel.number _ _ _ (c.requires.in_step.noted.numbered c.in-Cancel.number) c.cancel.ensures c.requires.placed)

pub returns-in-Cancel-clause-found : goal.returns-in-Cancel-clause-found
returns-in-Cancel-clause-found g c = ap {A = SessionState} (λ s. findings g.N.Engine.problems_of s.journal) c.cancel.ensures ∙ cancel_finds g.N.Engine.problems_of (slice_index_or c.args.self.now.tickets c.in-Cancel.number None) c.args.self.now.journal

pub returns-in-Close-clause-in_step : goal.returns-in-Close-clause-in_step
returns-in-Close-clause-in_step g c = in_step_at c.play_close.ensures.session c.play_close.ensures.engine (close_in_step _ _ _ _ c.requires.in_step)

pub returns-in-Close-clause-checks : goal.returns-in-Close-clause-checks
returns-in-Close-clause-checks g c = checks_at c.play_close.ensures.session c.play_close.ensures.engine (close_checks g.N.Engine.answer_of _ _ _ c.requires.in_step c.requires.checks)

pub returns-in-Close-clause-plays : goal.returns-in-Close-clause-plays
returns-in-Close-clause-plays g c = subst (λ o. PlaysOrder o c.args.self.now c.play_close.new.self) (sym c.in-Close.is) (close_plays _ _ c.play_close.ensures.session c.requires.placed)

pub returns-in-Close-clause-found : goal.returns-in-Close-clause-found
returns-in-Close-clause-found g c = ap {A = SessionState} (λ s. findings g.N.Engine.problems_of s.journal) c.play_close.ensures.session ∙ close_finds g.N.Engine.answer_of g.N.Engine.problems_of c.args.self.now.journal

pub returns-in-Idle-clause-in_step : goal.returns-in-Idle-clause-in_step
returns-in-Idle-clause-in_step g c = in_step_at c.play_idle.ensures refl (idle_in_step _ _ _ _ c.requires.in_step c.requires.placed)

pub returns-in-Idle-clause-plays : goal.returns-in-Idle-clause-plays
returns-in-Idle-clause-plays g c = subst (λ o. PlaysOrder o c.args.self.now c.play_idle.new.self) (sym c.in-Idle.is) (subst (PlaysOrder order.Idle c.args.self.now) (sym c.play_idle.ensures) (idle_plays g.N.Engine.answer_of g.N.Engine.problems_of _ _ c.requires.in_step c.requires.placed))
