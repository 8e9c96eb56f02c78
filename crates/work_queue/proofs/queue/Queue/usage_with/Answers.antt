use Rattle.std.proofs.Common.{◌∙◌, ◌<◌, ◌^◌, List, length, sym, subst, arith}
use Rattle.ask_history.specs.Sources.{Bytes}
use Rattle.work_queue.proofs.Refusals.{text_bytes-fits}
use Rattle.work_queue.proofs.queue.Queue.usage_with.Goals as goal

pub usage_with-usage-requires : goal.usage_with-usage-requires
usage_with-usage-requires c =
    let kept = c.self.invariant in
    let within = kept.within in
    let pairs = c.reloaded-pairs.result.now in
    let fitting = sym c.too_large.ensures ∙ c.in_default-too_large.is in
    let few : length pairs < 2 ^ 32 = subst (λ (es : List (Bytes × Bytes)). length es < 2 ^ 32) (sym c.reloaded-pairs.ensures) c.requires in
    record {
      text = text_bytes-fits c.self.inside.limits.file c.self.inside.tally.usage.text pairs fitting within.file few (omega (arith, within.text, kept.text));
      names = omega (arith, within.names, kept.names, few);
      map = text_bytes-fits c.self.inside.limits.file c.self.inside.tally.usage.map pairs fitting within.file few (omega (arith, within.map, kept.map));
    }
