use Rattle.std.proofs.Common.{◌==◌, not, rules}
use Rattle.std.proofs.lemmas.Fn.{filter_same}
use Rattle.loop_checks.proofs.player.leave_out.Goals as goal

pub returns : goal.returns
returns c = filter_same _ (λ other. not (other == c.args.ticket)) _ (λ x r f' k. search rules) _ _ c.retain.ensures.filtered
