use Rattle.std.proofs.Common.{take, ◌≡◌, ◌∙◌, ◌++◌, sym, ap, subst}
use Rattle.work_queue.specs.Queue.{QueueState}
use Rattle.work_queue.specs.Reloads.{reloads, reloaded_by, usage_of}
use Rattle.work_queue.specs.Refusal.{refusal}
use Rattle.work_queue.specs.Tally.{HasRoom, IsTally}
use Rattle.work_queue.proofs.Results.{ok_from}
use Rattle.work_queue.proofs.Rooms.{same-entries}
use Rattle.work_queue.proofs.Refusals.{is_free}
use Rattle.work_queue.proofs.Queues.{queue-room, call_of-accepted}
use Rattle.work_queue.proofs.Accepting.{queue-accept}
use Rattle.work_queue.proofs.queue.Queue.accept.Goals as goal

pub accept-requires : goal.accept-requires
accept-requires c =
    let free = ap (λ (q : QueueState). refusal q.limits q.journal c.args.call) c.self.view_is ∙ c.requires.free in
    (is_free c.self.inside.limits c.self.inside.log c.args.call free).unclosed

pub take_in-requires : goal.take_in-requires
take_in-requires c =
    let room = ok_from c.make_room.result _ (sym c.is_err.ensures.value ∙ c.if-is_err.false) c.make_room.ensures.room in
    let same = call_of-accepted c.self.inside c.self.invariant c.accept.new.self c.in-Ok.ticket c.args.client c.args.tag c.args.call c.call-call.result.now
    c.in-Ok.ensures.ok c.in-Ok.ensures.ticket c.call-call.ensures in
    subst (λ es. HasRoom es c.make_room.new.self) (c.reloaded.ensures ∙ sym (c.reloaded-in-Ok.ensures ∙ ap reloaded_by same)) room

pub invariant_of-self-in-Ok : goal.invariant_of-self-in-Ok
invariant_of-self-in-Ok c =
    let free = ap (λ (q : QueueState). refusal q.limits q.journal c.args.call) c.self.view_is ∙ c.requires.free in
    let same = call_of-accepted c.self.inside c.self.invariant c.accept.new.self c.in-Ok.ticket c.args.client c.args.tag c.args.call c.call-call.result.now
    c.in-Ok.ensures.ok c.in-Ok.ensures.ticket c.call-call.ensures in
    let pairs = c.reloaded-in-Ok.ensures ∙ ap reloaded_by same in
    let before = reloads c.self.inside.log in
    let usage : c.args.usage ≡ usage_of (before ++ c.reloaded-in-Ok.result.now) =
    c.requires.usage ∙ ap (λ (q : QueueState). usage_of (reloads q.journal ++ reloaded_by c.args.call)) (sym c.self.view_is) ∙ ap (λ es. usage_of (before ++ es)) (sym pairs) in
    queue-accept c.self.inside c.self.invariant c.in-Ok.ticket c.args.client c.args.tag c.args.call (is_free c.self.inside.limits c.self.inside.log c.args.call free)
    c.requires.names c.accept.new.self c.in-Ok.ensures.ok c.in-Ok.ensures.legal c.take_in.new.self
    (subst (λ es. IsTally (before ++ es) c.take_in.new.self) pairs (c.take_in.ensures before (c.make_room.ensures.same before c.self.invariant.tally) usage))

pub invariant_of-self-in-Err : goal.invariant_of-self-in-Err
invariant_of-self-in-Err c =
    let names = c.keep.ensures.names ∙ ap (λ n. take n c.make_room.new.self.longest.entries) c.len-names.ensures.len ∙ c.make_room.ensures.names in
    queue-room c.self.inside c.self.invariant c.keep.new.self c.accept.new.self c.in-Err.ensures.err
    (same-entries c.self.inside.tally c.keep.new.self (c.keep.ensures.usage ∙ c.make_room.ensures.usage) names)
