-- The input of a session.
use Rattle.std.specs.Prelude.{ℕ, List, map, [], Option, Some, None}
use Rattle.pc_terms.specs.Bytes.{Bytes}
use Rattle.ask_history.specs.declared.script.Line.{Line}
use Rattle.script_text.specs.declared.kinds.ScriptKind.TheVariants as kind
use Rattle.script_text.specs.Texts.{line_with}
use Rattle.session_input.specs.Reads.{Reading, Gives, Refuses, then_reads}
use Rattle.session_input.specs.Sources.{script_reading, pairs_in, sources_reading}
use Rattle.session_input.specs.Counts.{passed_by}
use Rattle.session_input.specs.declared.limits.Limit.{Limit}
use Rattle.session_input.specs.declared.refusal.Refusal.TheVariants as refusal

-- what was read, where no limit is passed
abbrev pub unless_passed : {A : Type 0} → A → Option (Limit × ℕ) → Reading A
unless_passed lines None = Gives lines
unless_passed lines (Some passed) = Refuses (refusal.Limit passed.0 passed.1)

-- Lines with the texts of their paths, where they are within the limits.
abbrev pub within_limits : List Line → Reading (List Line)
within_limits lines = unless_passed lines (passed_by lines)

abbrev pub with_sources : List Line → Reading (List Line)
with_sources lines = then_reads (λ sources. within_limits (map (line_with sources) lines)) (sources_reading [] (pairs_in lines))

-- The lines of a schedule, with the texts of the sources that it names: first the schedule is read, then its sources, then
-- what they count is held against the limits.
abbrev pub schedule_reading : Bytes → Reading (List Line)
schedule_reading name = then_reads with_sources (script_reading kind.Schedule name)
