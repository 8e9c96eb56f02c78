use Rattle.std.proofs.Common.{◌≡◌, ◌++◌, drop}
use Rattle.transcript.specs.Printed.{events_text}
use Rattle.transcript.proofs.journal.push_events.Given as goal

-- what is written so far, and the events that are left
abbrev pub invariant-loop-index : goal.invariant-loop-index
invariant-loop-index l = l.text ++ events_text l.index l.left (drop l.index l.events) ≡ l.initial.text ++ events_text 0 l.initial.left l.events
