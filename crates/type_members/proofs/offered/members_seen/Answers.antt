use Rattle.std.proofs.Common.{[], ◌∷◌}
use Rattle.item_answers.specs.Asking.{infos, each}
use Rattle.type_members.specs.Members.{member_of}
use Rattle.type_members.proofs.Asked.{asked-on, each-begins}
use Rattle.type_members.proofs.offered.members_seen.Goals as goal

pub loop-path-preserved : goal.loop-path-preserved
loop-path-preserved g c =
    asked-on (infos (g.I.Infos.known c.args.infos.now)) (each (member_of c.args.offer.now.class c.args.view.now)) c.as_slice-path-items.result.now c.loop-path.members c.loop-path.path-index
    c.path-item.result (c.in_ok-member_of.field-0 ∷ []) c.push.new.self c.loop-path-test.true c.path-item.is
    (each-begins (infos (g.I.Infos.known c.args.infos.now)) (member_of c.args.offer.now.class c.args.view.now) c.path-item.result c.in_ok-member_of.field-0 c.in_ok-member_of.ensures)
    c.in_ok-push.ensures.ok c.loop-path.invariant
