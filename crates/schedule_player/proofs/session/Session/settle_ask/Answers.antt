use Rattle.std.proofs.Common.{◌≡◌, ◌++◌, ◌∷◌, [], slice_set, ap, ◌∙◌, Some}
use Rattle.schedule_player.specs.Around.{around}
use Rattle.schedule_player.specs.SessionState.{SessionState}
use Rattle.ask_history.specs.Journal.{reply}
use Rattle.ask_history.specs.declared.events.Event.TheVariants.{Settle}
use Rattle.work_queue.specs.Queue.{mark_of, value_of}
use Rattle.schedule_player.proofs.Same.{in_step_at, checks_at}
use Rattle.schedule_player.proofs.Served.{may_settle_top}
use Rattle.schedule_player.proofs.Settles.{top_next, top_within, top_open, settled_in_step, settled_checks}
use Rattle.schedule_player.proofs.session.Session.settle_ask.Goals as goal
use Rattle.schedule_player.proofs.session.Session.settle_ask.Given as given

pub settle-requires-clause-unanswered : goal.settle-requires-clause-unanswered
settle-requires-clause-unanswered g c = top_open _ _ _ _ c.requires.in_step c.requires.live _ _ c.requires.top

pub settle-requires-clause-next : goal.settle-requires-clause-next
settle-requires-clause-next g c = top_next _ _ _ _ c.requires.in_step c.requires.live _ _ c.requires.top

pub settle-requires-clause-within : goal.settle-requires-clause-within
settle-requires-clause-within g c = top_within _ _ _ _ c.requires.in_step c.requires.live _ _ c.requires.top

pub take_off-requires : goal.take_off-requires
take_off-requires g c = λ fed. may_settle_top _ _ c.requires.in_step.served c.requires.live _ (c.requires.top ∙ (λ j. Some (c.args.ticket, fed j)))

off : (g : given.Over) (c : goal.After-pop g) → c.pop.new.self ≡ record c.args.self.now {
  journal = c.args.self.now.journal ++ Settle c.args.ticket (mark_of c.args.what) ∷ [];
  answers = slice_set c.args.self.now.answers c.args.ticket (reply (λ files call. value_of c.args.what) c.args.self.now.journal c.args.ticket (mark_of c.args.what));
  outers = around c.args.self.now.outers;
}
off g c = c.pop.ensures ∙ ap {A = SessionState} (λ s. record s { outers = around s.outers }) c.settle.ensures.session

pub returns-clause-in_step : goal.returns-clause-in_step
returns-clause-in_step g c = in_step_at (off g c) c.take_off.ensures
    (settled_in_step _ _ _ _ c.requires.in_step c.requires.live _ _ c.requires.top _ _ c.requires.right.right)

pub returns-clause-checks : goal.returns-clause-checks
returns-clause-checks g c = λ checks. checks_at (off g c) c.take_off.ensures
    (settled_checks g.N.Engine.answer_of _ _ _ c.requires.in_step c.requires.live _ _ c.requires.top _ _ c.requires.right.right checks)
