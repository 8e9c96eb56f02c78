use Rattle.std.proofs.Common.{rules, ◌≡◌, [], ◌∷◌, ◌++◌, Some, None, ◌∙◌}
use Rattle.report_hub.proofs.Slots.{set-last}
use Rattle.report_hub.proofs.hub.Hub.attach.Goals as goal

pub returns-clause-ok : goal.returns-clause-ok
returns-clause-ok g c =
    let pushed : c.push.new.self.items ≡ c.args.self.now.reporters.items ++ None ∷ [] = search rules in
    rw pushed (set-last _ None (Some c.args.reporter) c.len-number.result (c.len-number.ensures ∙ c.args.self.now.reporters.ok.0))
