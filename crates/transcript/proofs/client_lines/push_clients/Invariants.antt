use Rattle.std.proofs.Common.{◌≡◌, ◌++◌, List, drop}
use Rattle.ask_history.specs.declared.events.Event.{Event}
use Rattle.transcript.specs.Outcomes.{IsTableOf}
use Rattle.transcript.specs.Transcript.{clients_text}
use Rattle.transcript.proofs.client_lines.push_clients.Given as goal

-- what is written so far, and the clients that are left
abbrev pub invariant-loop-client : goal.invariant-loop-client
invariant-loop-client l = (journal : List Event) → IsTableOf journal l.outcomes
    → l.text ++ clients_text journal l.client l.left (drop l.client l.scripts) ≡ l.initial.text ++ clients_text journal 0 l.initial.left l.scripts
