use Rattle.std.proofs.Common.{◌≡◌, None, false, true, ap, sym, ◌∙◌, refl}
use Rattle.ask_history.specs.Sources.{is_mutation}
use Rattle.ask_history.specs.declared.events.Mark.TheVariants as mark
use Rattle.ask_history.specs.declared.answers.Answer.TheVariants as answer
use Rattle.ask_history.specs.Journal.{findings}
use Rattle.schedule_player.proofs.Pushing.{findings-push}
use Rattle.schedule_player.specs.SessionState.{SessionState}
use Rattle.schedule_player.proofs.Openings.{same_call, new_ticket, same_names, few_there, ask_in_step, ask_checks, ask_plays, open_there, next_there, unmade_in_step, unmade_checks, unmade_plays, made_in_step, made_checks, made_plays}
use Rattle.schedule_player.proofs.session.Session.play_accepted.Goals as goal

pub feed-requires-clause-new_ticket : goal.feed-requires-clause-new_ticket
feed-requires-clause-new_ticket g c = new_ticket _ _ _ _ c.requires.in_step c.requires.live _ _ _ _ c.in_ok-ticket.ensures.ok c.in_ok-ticket.ensures.ticket c.call.ensures.call

pub feed-requires-clause-names : goal.feed-requires-clause-names
feed-requires-clause-names g c = same_names _ _ _ _ c.requires.in_step c.requires.live _ _ _ _ c.in_ok-ticket.ensures.ok c.in_ok-ticket.ensures.ticket c.call.ensures.call c.requires.can.names

pub feed-requires-clause-few : goal.feed-requires-clause-few
feed-requires-clause-few g c = few_there _ _ _ _ c.requires.in_step c.requires.live _ _ _ _ c.in_ok-ticket.ensures.ok c.in_ok-ticket.ensures.ticket c.call.ensures.call c.call.ensures.few

pub settle-effect-requires-clause-unanswered : goal.settle-effect-requires-clause-unanswered
settle-effect-requires-clause-unanswered g c =
    open_there _ _ _ _ c.requires.in_step c.requires.live _ _ _ _ c.in_ok-ticket.ensures.ok c.in_ok-ticket.ensures.ticket c.call.ensures.call c.in-Staged.ensures.0 mark.Done

pub settle-effect-requires-clause-next : goal.settle-effect-requires-clause-next
settle-effect-requires-clause-next g c =
    next_there _ _ _ _ c.requires.in_step c.requires.live _ _ _ _ c.in_ok-ticket.ensures.ok c.in_ok-ticket.ensures.ticket c.call.ensures.call c.in-Staged.ensures.0 mark.Done

pub settle-requires-clause-unanswered : goal.settle-requires-clause-unanswered
settle-requires-clause-unanswered g c =
    open_there _ _ _ _ c.requires.in_step c.requires.live _ _ _ _ c.in_ok-ticket.ensures.ok c.in_ok-ticket.ensures.ticket c.call.ensures.call
    (ap is_mutation (same_call _ _ _ _ c.requires.in_step c.requires.live _ _ _ _ c.in_ok-ticket.ensures.ok c.in_ok-ticket.ensures.ticket c.call.ensures.call) ∙ sym c.is_mutation-mutates.ensures ∙ c.if-mutates.true) mark.NoMemory

pub settle-requires-clause-next : goal.settle-requires-clause-next
settle-requires-clause-next g c =
    next_there _ _ _ _ c.requires.in_step c.requires.live _ _ _ _ c.in_ok-ticket.ensures.ok c.in_ok-ticket.ensures.ticket c.call.ensures.call
    (ap is_mutation (same_call _ _ _ _ c.requires.in_step c.requires.live _ _ _ _ c.in_ok-ticket.ensures.ok c.in_ok-ticket.ensures.ticket c.call.ensures.call) ∙ sym c.is_mutation-mutates.ensures ∙ c.if-mutates.true) mark.NoMemory

pub returns-in-Taken-clause-in_step : goal.returns-in-Taken-clause-in_step
returns-in-Taken-clause-in_step g c =
    ask_in_step _ _ _ _ c.requires.in_step c.requires.live _ _ _ _ c.in_ok-ticket.ensures.ok c.in_ok-ticket.ensures.ticket c.call.ensures.call
    c.in-Taken.ensures.0 c.requires.placed true _ c.set_work.ensures _ c.in-Taken.ensures.1

pub returns-in-Taken-clause-checks : goal.returns-in-Taken-clause-checks
returns-in-Taken-clause-checks g c =
    ask_checks _ _ _ _ c.requires.in_step c.requires.live _ _ _ _ c.in_ok-ticket.ensures.ok c.in_ok-ticket.ensures.ticket c.call.ensures.call
    c.in-Taken.ensures.0 c.requires.placed true _ c.set_work.ensures _ c.in-Taken.ensures.1 c.requires.checks

pub returns-in-Taken-clause-plays : goal.returns-in-Taken-clause-plays
returns-in-Taken-clause-plays g c =
    ask_plays _ _ _ _ c.requires.in_step c.requires.live _ _ _ _ c.in_ok-ticket.ensures.ok c.in_ok-ticket.ensures.ticket c.call.ensures.call
    c.in-Taken.ensures.0 c.requires.placed true _ c.set_work.ensures

pub returns-in-Staged-clause-in_step : goal.returns-in-Staged-clause-in_step
returns-in-Staged-clause-in_step g c =
    made_in_step _ _ _ _ c.requires.in_step c.requires.live _ _ _ _ c.in_ok-ticket.ensures.ok c.in_ok-ticket.ensures.ticket c.call.ensures.call
    c.in-Staged.ensures.0 c.requires.placed (λ files call. answer.Done) _ _ _ _ (c.forget_found.ensures ∙ ap {A = SessionState} (λ s. record s { found = None }) c.settle-effect.ensures.session) c.in-Staged.ensures.1 c.settle-effect.ensures.effect c.settled.ensures

pub returns-in-Staged-clause-checks : goal.returns-in-Staged-clause-checks
returns-in-Staged-clause-checks g c =
    made_checks _ _ _ _ c.requires.in_step c.requires.live _ _ _ _ c.in_ok-ticket.ensures.ok c.in_ok-ticket.ensures.ticket c.call.ensures.call
    c.in-Staged.ensures.0 c.requires.placed (λ files call. answer.Done) _ _ _ _ (c.forget_found.ensures ∙ ap {A = SessionState} (λ s. record s { found = None }) c.settle-effect.ensures.session) c.in-Staged.ensures.1 c.settle-effect.ensures.effect c.settled.ensures

pub returns-in-Staged-clause-plays : goal.returns-in-Staged-clause-plays
returns-in-Staged-clause-plays g c =
    made_plays _ _ _ _ c.requires.in_step c.requires.live _ _ _ _ c.in_ok-ticket.ensures.ok c.in_ok-ticket.ensures.ticket c.call.ensures.call
    c.in-Staged.ensures.0 c.requires.placed (λ files call. answer.Done) _ _ _ _ (c.forget_found.ensures ∙ ap {A = SessionState} (λ s. record s { found = None }) c.settle-effect.ensures.session) c.in-Staged.ensures.1 c.settle-effect.ensures.effect c.settled.ensures

pub returns-in-NoMemory-clause-in_step : goal.returns-in-NoMemory-clause-in_step
returns-in-NoMemory-clause-in_step g c =
    unmade_in_step _ _ _ _ c.requires.in_step c.requires.live _ _ _ _ c.in_ok-ticket.ensures.ok c.in_ok-ticket.ensures.ticket c.call.ensures.call
    (ap is_mutation (same_call _ _ _ _ c.requires.in_step c.requires.live _ _ _ _ c.in_ok-ticket.ensures.ok c.in_ok-ticket.ensures.ticket c.call.ensures.call) ∙ sym c.is_mutation-mutates.ensures ∙ c.if-mutates.true) c.requires.placed (λ files call. answer.NoMemory) _ c.settle.ensures.session _ c.in-NoMemory.ensures

pub returns-in-NoMemory-clause-checks : goal.returns-in-NoMemory-clause-checks
returns-in-NoMemory-clause-checks g c =
    unmade_checks _ _ _ _ c.requires.in_step c.requires.live _ _ _ _ c.in_ok-ticket.ensures.ok c.in_ok-ticket.ensures.ticket c.call.ensures.call
    (ap is_mutation (same_call _ _ _ _ c.requires.in_step c.requires.live _ _ _ _ c.in_ok-ticket.ensures.ok c.in_ok-ticket.ensures.ticket c.call.ensures.call) ∙ sym c.is_mutation-mutates.ensures ∙ c.if-mutates.true) c.requires.placed (λ files call. answer.NoMemory) _ c.settle.ensures.session _ c.in-NoMemory.ensures c.requires.checks

pub returns-in-NoMemory-clause-plays : goal.returns-in-NoMemory-clause-plays
returns-in-NoMemory-clause-plays g c =
    unmade_plays _ _ _ _ c.requires.in_step c.requires.live _ _ _ _ c.in_ok-ticket.ensures.ok c.in_ok-ticket.ensures.ticket c.call.ensures.call
    (ap is_mutation (same_call _ _ _ _ c.requires.in_step c.requires.live _ _ _ _ c.in_ok-ticket.ensures.ok c.in_ok-ticket.ensures.ticket c.call.ensures.call) ∙ sym c.is_mutation-mutates.ensures ∙ c.if-mutates.true) c.requires.placed (λ files call. answer.NoMemory) _ c.settle.ensures.session

pub returns-in-NoMemory-2-clause-in_step : goal.returns-in-NoMemory-2-clause-in_step
returns-in-NoMemory-2-clause-in_step g c =
    ask_in_step _ _ _ _ c.requires.in_step c.requires.live _ _ _ _ c.in_ok-ticket.ensures.ok c.in_ok-ticket.ensures.ticket c.call.ensures.call
    (ap is_mutation (same_call _ _ _ _ c.requires.in_step c.requires.live _ _ _ _ c.in_ok-ticket.ensures.ok c.in_ok-ticket.ensures.ticket c.call.ensures.call) ∙ sym c.is_mutation-mutates.ensures ∙ c.if-mutates.false) c.requires.placed false _ c.set_work-in-NoMemory-2.ensures _ c.in-NoMemory-2.ensures

pub returns-in-NoMemory-2-clause-checks : goal.returns-in-NoMemory-2-clause-checks
returns-in-NoMemory-2-clause-checks g c =
    ask_checks _ _ _ _ c.requires.in_step c.requires.live _ _ _ _ c.in_ok-ticket.ensures.ok c.in_ok-ticket.ensures.ticket c.call.ensures.call
    (ap is_mutation (same_call _ _ _ _ c.requires.in_step c.requires.live _ _ _ _ c.in_ok-ticket.ensures.ok c.in_ok-ticket.ensures.ticket c.call.ensures.call) ∙ sym c.is_mutation-mutates.ensures ∙ c.if-mutates.false) c.requires.placed false _ c.set_work-in-NoMemory-2.ensures _ c.in-NoMemory-2.ensures c.requires.checks

pub returns-in-NoMemory-2-clause-plays : goal.returns-in-NoMemory-2-clause-plays
returns-in-NoMemory-2-clause-plays g c =
    ask_plays _ _ _ _ c.requires.in_step c.requires.live _ _ _ _ c.in_ok-ticket.ensures.ok c.in_ok-ticket.ensures.ticket c.call.ensures.call
    (ap is_mutation (same_call _ _ _ _ c.requires.in_step c.requires.live _ _ _ _ c.in_ok-ticket.ensures.ok c.in_ok-ticket.ensures.ticket c.call.ensures.call) ∙ sym c.is_mutation-mutates.ensures ∙ c.if-mutates.false) c.requires.placed false _ c.set_work-in-NoMemory-2.ensures

pub returns-in-Taken-clause-found : goal.returns-in-Taken-clause-found
returns-in-Taken-clause-found g c =
    ap {A = SessionState} (λ s. findings g.N.Engine.problems_of s.journal) c.set_work.ensures ∙ ap {A = SessionState} (λ s. findings g.N.Engine.problems_of s.journal) c.in_ok-ticket.ensures.ok ∙ findings-push g.N.Engine.problems_of c.args.self.now.journal _

pub returns-in-NoMemory-2-clause-found : goal.returns-in-NoMemory-2-clause-found
returns-in-NoMemory-2-clause-found g c =
    ap {A = SessionState} (λ s. findings g.N.Engine.problems_of s.journal) c.set_work-in-NoMemory-2.ensures ∙ ap {A = SessionState} (λ s. findings g.N.Engine.problems_of s.journal) c.in_ok-ticket.ensures.ok ∙ findings-push g.N.Engine.problems_of c.args.self.now.journal _

pub returns-in-NoMemory-clause-found : goal.returns-in-NoMemory-clause-found
returns-in-NoMemory-clause-found g c =
    ap {A = SessionState} (λ s. findings g.N.Engine.problems_of s.journal) c.settle.ensures.session ∙ findings-push g.N.Engine.problems_of c.accept.new.self.journal _
    ∙ ap {A = SessionState} (λ s. findings g.N.Engine.problems_of s.journal) c.in_ok-ticket.ensures.ok ∙ findings-push g.N.Engine.problems_of c.args.self.now.journal _

pub returns-in-Staged-clause-found : goal.returns-in-Staged-clause-found
returns-in-Staged-clause-found g c =
    ap {A = SessionState} (λ s. findings g.N.Engine.problems_of s.journal) c.forget_found.ensures
    ∙ ap {A = SessionState} (λ s. findings g.N.Engine.problems_of s.journal) c.settle-effect.ensures.session ∙ findings-push g.N.Engine.problems_of c.accept.new.self.journal _
    ∙ ap {A = SessionState} (λ s. findings g.N.Engine.problems_of s.journal) c.in_ok-ticket.ensures.ok ∙ findings-push g.N.Engine.problems_of c.args.self.now.journal _
