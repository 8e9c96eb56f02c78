use Rattle.std.proofs.Common.{◌≡◌, ◌==◌, ℕ, List, rules, sym, ap, ◌∙◌}
use Rattle.std.specs.List.{list_any}
use Rattle.compiler_loop.specs.CoreState.{state_of}
use Rattle.loop_checks.proofs.OpenAsks.{is_open_in-tickets}
use Rattle.loop_checks.proofs.player.Player.is_open.Goals as goal

pub returns : goal.returns
returns c =
    let same : c.as_slice.result.now ≡ c.args.self.now.open.items = search rules in
    c.is_among.ensures
    ∙ ap (λ (tickets : List ℕ). list_any (λ other. other == c.args.ticket) tickets) (same ∙ sym c.args.self.now.asks)
    ∙ sym (is_open_in-tickets (state_of c.args.self.now.core).asks c.args.ticket)
