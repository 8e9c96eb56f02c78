use Rattle.std.proofs.Common.{◌≡◌, Result, Ok, Err, IfOk, IfErr, sym, ap, subst}
use Rattle.ask_history.specs.declared.calls.Call.{Call}
use Rattle.client_scripts.specs.Passes.{Accepts, Refuses}
use Rattle.desk_clients.specs.Seen.{seen_state}
use Rattle.desk_clients.proofs.Seeing.{seen_accepts, seen_refuses, seen_unmoved}
use Rattle.desk_clients.proofs.desk_pass.DeskPassClientPass.post.Goals as goal
use Rattle.desk_clients.proofs.desk_pass.DeskPassClientPass.post.Goals.{in-Ok-posted, in-Err-posted}

pub returns-in-Err-clause-refused : goal.returns-in-Err-clause-refused
returns-in-Err-clause-refused g c = seen_unmoved _ _ c.known.ensures.1

pub returns-clause-accepted : goal.returns-clause-accepted
returns-clause-accepted g c = elim c.match-posted.branch [
  | in-Ok-posted w ↦ subst (λ r. IfOk r (λ ticket. Accepts (seen_state c.args.self.now.pass) (seen_state c.post-posted.new.pass) ticket.ticket c.args.tag c.args.call.now)) (sym w.result-is)
      (subst (λ (call : Call). Accepts (seen_state c.args.self.now.pass) (seen_state c.post-posted.new.pass) w.in-Ok-posted.ticket.ticket c.args.tag call) c.in-Ok.ensures
      (seen_accepts _ _ _ _ c.known.ensures.1 c.known-2.ensures.1 _ _ _ _ w.in-Ok-posted.ensures.ok))
  | in-Err-posted w ↦ subst (λ r. IfOk r (λ ticket. Accepts (seen_state c.args.self.now.pass) (seen_state c.post-posted.new.pass) ticket.ticket c.args.tag c.args.call.now)) (sym w.result-is) tt
]

pub returns-clause-refused : goal.returns-clause-refused
returns-clause-refused g c = elim c.match-posted.branch [
  | in-Ok-posted w ↦ subst (λ r. IfErr r (Refuses (seen_state c.args.self.now.pass) (seen_state c.post-posted.new.pass))) (sym w.result-is) tt
  | in-Err-posted w ↦ subst (λ r. IfErr r (Refuses (seen_state c.args.self.now.pass) (seen_state c.post-posted.new.pass))) (sym w.result-is)
      (seen_refuses _ _ _ _ c.known.ensures.1 c.known-2.ensures.1 _ _ _ w.in-Err-posted.ensures.refused.1)
]
