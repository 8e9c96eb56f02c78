use Rattle.std.proofs.Common.{[], ◌∷◌}
use Rattle.item_answers.specs.Asking.{infos, each}
use Rattle.type_members.specs.Members.{package_member}
use Rattle.type_members.proofs.Asked.{asked-on, each-begins}
use Rattle.type_members.proofs.listing.package_members.Goals as goal

pub loop-path-preserved : goal.loop-path-preserved
loop-path-preserved g c =
    asked-on (infos (g.I.Infos.known c.args.infos.now)) (each (package_member c.args.holder.now)) c.args.paths.now c.loop-path.members c.loop-path.path-index
    c.path-item.result (c.in_ok-package_member.field-0 ∷ []) c.push.new.self c.loop-path-test.true c.path-item.is
    (each-begins (infos (g.I.Infos.known c.args.infos.now)) (package_member c.args.holder.now) c.path-item.result c.in_ok-package_member.field-0 c.in_ok-package_member.ensures)
    c.in_ok-push.ensures.ok c.loop-path.invariant
