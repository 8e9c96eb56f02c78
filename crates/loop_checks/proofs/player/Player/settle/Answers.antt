use Rattle.std.proofs.Common.{◌≡◌, ◌≤◌, ◌*◌, ◌==◌, ℕ, List, not, map, filter, length, sym, ap, subst, ◌∙◌}
use Rattle.ask_history.specs.Engine.{EngineState}
use Rattle.ask_history.specs.declared.engine.Effect.TheVariants.{Dropped}
use Rattle.compiler_loop.specs.CoreState.{state_of}
use Rattle.loop_checks.proofs.OpenAsks.{settled_open, tickets_left}
use Rattle.loop_checks.proofs.player.Player.settle.Goals as goal

pub invariant_of-self : goal.invariant_of-self
invariant_of-self c =
    let old = c.args.self.now in
    let new = c.settled.ensures ∙ settled_open (state_of old.core) c.args.ticket Dropped old.staged in
    record {
      asks = ap (λ (state : EngineState). map (λ ask. ask.0) state.asks) new
          ∙ tickets_left (state_of old.core).asks c.args.ticket
          ∙ ap (λ (tickets : List ℕ). filter (λ other. not (other == c.args.ticket)) tickets) old.asks
          ∙ sym c.leave_out.ensures;
      staged = ap (λ (state : EngineState). state.staged) new ∙ old.staged;
      few = subst (λ (state : EngineState). length state.sources ≤ 2 * old.mutations) (sym new) old.few;
    }
