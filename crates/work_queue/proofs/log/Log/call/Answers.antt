use Rattle.std.proofs.Common.{◌≡◌, ◌∙◌, ℕ, ◌==◌, Bool, true, false, cond, Some, None, is_some, sym, ap, refl}
use Rattle.ask_history.specs.Journal.{call_under}
use Rattle.ask_history.specs.declared.calls.Call.{Call}
use Rattle.ask_history.specs.declared.events.Event.{Event}
use Rattle.ask_history.specs.declared.events.Event.TheVariants.{Accept, Cancel, Close, Settle, Checked}
use Rattle.work_queue.proofs.Logs.{accept_within, accept_call, accepts_some}
use Rattle.work_queue.proofs.log.Log.call.Goals as goal

pub index-requires-2 : goal.index-requires-2
index-requires-2 c = accept_within c.self.inside c.self.invariant _ c.self.view_is c.args.ticket c.requires c.index.result.now c.index.ensures

-- only an Accept has a call
has_call : (t : ℕ) (event : Event) → is_some (call_under t event) ≡ true
    → ((ticket client tag : ℕ) (call : Call) → event ≡ Accept ticket client tag call → ⊥) → ⊥
has_call t (Accept ticket client tag call) h none = none ticket client tag call refl
has_call t (Cancel ticket) h none = cc
has_call t Close h none = cc
has_call t (Settle ticket mark) h none = cc
has_call t (Checked file) h none = cc

pub unreachable-requires : goal.unreachable-requires
unreachable-requires c =
    has_call c.args.ticket c.index-2.result.now
    (accepts_some c.self.inside c.self.invariant _ c.self.view_is c.args.ticket c.requires c.index.result.now c.index.ensures c.index-2.result.now c.index-2.ensures)
    c.in_default.not-Accept

the_call : (t ticket client tag : ℕ) (call : Call) → is_some (call_under t (Accept ticket client tag call)) ≡ true
    → call_under t (Accept ticket client tag call) ≡ Some call
the_call t ticket client tag call h = by (ticket == t) h
  where
    by : (b : Bool) → is_some (cond b (Some call) None) ≡ true → cond b (Some call) None ≡ Some call
    by true e = refl
    by false e = cc

pub returns : goal.returns
returns c =
    let there = accept_call c.self.inside c.self.invariant _ c.self.view_is c.args.ticket c.requires c.index.result.now c.index.ensures c.index-2.result.now c.index-2.ensures in
    let some = accepts_some c.self.inside c.self.invariant _ c.self.view_is c.args.ticket c.requires c.index.result.now c.index.ensures c.index-2.result.now c.index-2.ensures in
    let under = ap (call_under c.args.ticket) c.in-Accept.is in
    sym there ∙ under ∙ the_call c.args.ticket c.in-Accept.ticket c.in-Accept.client c.in-Accept.tag c.in-Accept.call (sym (ap is_some under) ∙ some)
