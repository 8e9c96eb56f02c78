use Rattle.std.proofs.Common.{◌≡◌, ◌++◌, ◌+◌, ◌≤◌, List, drop}
use Rattle.ask_history.specs.declared.events.Event.{Event}
use Rattle.transcript.specs.Outcomes.{IsTableOf}
use Rattle.transcript.specs.Transcript.{lines_printed}
use Rattle.transcript.proofs.client_lines.push_client_lines.Given as goal

-- what is written so far, and what is printed of the lines that are left
abbrev pub invariant-loop-line : goal.invariant-loop-line
invariant-loop-line l = record {
  counted : l.number ≤ l.line-index + 1;
  written : (journal : List Event) → IsTableOf journal l.outcomes
      → l.text ++ lines_printed journal l.client l.number l.left (drop l.line-index l.lines) ≡ l.initial.text ++ lines_printed journal l.client 1 l.initial.left l.lines;
}
