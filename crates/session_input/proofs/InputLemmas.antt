-- The input of a session, from its script and its sources.
use Rattle.std.proofs.Common.{◌≡◌, ◌≤◌, ℕ, List, [], map, Option, Some, None, Result, Ok, Err, subst}
use Rattle.pc_terms.specs.Bytes.{Bytes}
use Rattle.ask_history.specs.Sources.{Sources}
use Rattle.ask_history.specs.declared.script.Line.{Line}
use Rattle.script_text.specs.Texts.{line_with}
use Rattle.script_text.specs.declared.kinds.ScriptKind.TheVariants as kind
use Rattle.session_input.specs.Reads.{ComesTo}
use Rattle.session_input.specs.Sources.{script_reading, pairs_in, sources_reading}
use Rattle.session_input.specs.Counts.{passed_by}
use Rattle.session_input.specs.Input.{unless_passed, within_limits, with_sources, schedule_reading}
use Rattle.session_input.specs.Faults.{CountsFaults}
use Rattle.session_input.specs.declared.limits.Limit.{Limit}
use Rattle.session_input.specs.declared.refusal.Refusal.TheVariants as refusal
use Rattle.session_input.specs.declared.refusal.NoInput.{NoInput}
use Rattle.session_input.proofs.ReadLemmas.{comes_to-then_ok, comes_to-then_err}
use Rattle.session_input.proofs.TextLemmas.{given_counts, refused_counts}

pub within_counts : (lines : List Line) (content : Bytes → Option Bytes) (result : Result (List Line) NoInput) (before now : ℕ) (last : Option Bytes)
    → ComesTo content (within_limits lines) result → now ≡ before → CountsFaults result before now last
within_counts lines content result before now last = by (passed_by lines) where
  by : (passed : Option (Limit × ℕ)) → ComesTo content (unless_passed lines passed) result → now ≡ before → CountsFaults result before now last
  by None = given_counts lines content result before now last
  by (Some (limit, value)) = refused_counts (refusal.Limit limit value) content result before now last (λ is. is)

-- after the lines, their sources
module _ (content later : Bytes → Option Bytes) (name : Bytes) (lines : List Line) (same : later ≡ content) (read : ComesTo content (script_reading kind.Schedule name) (Ok lines)) where
  then_sources : (result : Result (List Line) NoInput) → ComesTo later (with_sources lines) result → ComesTo content (schedule_reading name) result
  then_sources result comes =
      comes_to-then_ok content with_sources (script_reading kind.Schedule name) lines result read (subst (λ (k : Bytes → Option Bytes). ComesTo k (with_sources lines) result) same comes)

  pub sources_end : (none : NoInput) → ComesTo {A = Sources} later (sources_reading [] (pairs_in lines)) (Err none) → ComesTo {A = List Line} content (schedule_reading name) (Err none)
  sources_end none comes = then_sources (Err none) (comes_to-then_err later (λ sources. within_limits (map (line_with sources) lines)) (sources_reading [] (pairs_in lines)) none comes)

  pub sources_lead : (sources : Sources) (result : Result (List Line) NoInput) → ComesTo later (sources_reading [] (pairs_in lines)) (Ok sources)
      → ComesTo later (within_limits (map (line_with sources) lines)) result → ComesTo content (schedule_reading name) result
  sources_lead sources result first second =
      then_sources result (comes_to-then_ok later (λ found. within_limits (map (line_with found) lines)) (sources_reading [] (pairs_in lines)) sources result first second)
