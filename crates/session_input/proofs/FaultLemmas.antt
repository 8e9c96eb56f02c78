-- A fault of reading names a file that is read.
use Rattle.std.proofs.Common.{◌≡◌, inl, inr, ℕ, ◌+◌, Bool, true, false, cond, ◌==◌, nat_lt, List, [], ◌∷◌, ◌++◌, length, map, Option, Some, None, Result, Ok, Err}
use Rattle.std.specs.Str.Lossy.{utf8_valid_len}
use Rattle.pc_terms.specs.Bytes.{Bytes}
use Rattle.ask_history.specs.Sources.{Sources, is_loaded}
use Rattle.ask_history.specs.declared.script.Line.{Line}
use Rattle.script_text.specs.Texts.{line_with}
use Rattle.script_text.specs.Reading.{lines_read}
use Rattle.script_text.specs.declared.kinds.ScriptKind.TheVariants as kind
use Rattle.session_input.specs.Limits.{most_of}
use Rattle.session_input.specs.Reads.{Gives, Refuses, then_reads, ComesTo}
use Rattle.session_input.specs.Sources.{accepted, text_reading, lines_or_bad, script_reading, pairs_in, sources_reading}
use Rattle.session_input.specs.Counts.{passed_by}
use Rattle.session_input.specs.Input.{unless_passed, within_limits, with_sources, schedule_reading}
use Rattle.session_input.specs.Faults.{IsPathIn, IsReadFor}
use Rattle.session_input.specs.declared.limits.Limit.{Limit}
use Rattle.session_input.specs.declared.limits.Limit.TheVariants as limit
use Rattle.session_input.specs.declared.refusal.Refusal.TheVariants as refusal
use Rattle.session_input.specs.declared.refusal.NoInput.TheVariants.{Refused}
use Rattle.session_input.proofs.ReadLemmas.{comes_to-split}

in_accepted : (content : Bytes → Option Bytes) (limit : Limit) (of name bytes : Bytes) → ComesTo {A = Bytes} content (accepted limit of bytes) (Err (Refused (refusal.ReadFault name))) → ⊥
in_accepted content limit of name bytes = by (nat_lt (most_of limit) (length bytes)) (utf8_valid_len bytes == length bytes) where
  by : (long whole : Bool)
      → ComesTo {A = Bytes} content (cond long (Refuses (refusal.Limit limit (most_of limit + 1))) (cond whole (Gives bytes) (Refuses (refusal.NotUtf8 of (utf8_valid_len bytes))))) (Err (Refused (refusal.ReadFault name))) → ⊥
  by true whole (inl wrong) = cc
  by true whole (inr wrong) = cc
  by false true (inl wrong) = cc
  by false true (inr wrong) = cc
  by false false (inl wrong) = cc
  by false false (inr wrong) = cc

pub in_text : (content : Bytes → Option Bytes) (limit : Limit) (of name : Bytes) → ComesTo {A = Bytes} content (text_reading limit of) (Err (Refused (refusal.ReadFault name))) → name ≡ of
in_text content limit of name (inl (inl same)) = cc
in_text content limit of name (inl (inr wrong)) = cc
in_text content limit of name (inr (bytes, begins, comes)) = absurd (in_accepted content limit of name bytes comes)

pub in_lines : (content : Bytes → Option Bytes) (of name : Bytes) (read : Result (List Line) ℕ) → ComesTo {A = List Line} content (lines_or_bad of read) (Err (Refused (refusal.ReadFault name))) → ⊥
in_lines content of name (Ok lines) (inl wrong) = cc
in_lines content of name (Ok lines) (inr wrong) = cc
in_lines content of name (Err number) (inl wrong) = cc
in_lines content of name (Err number) (inr wrong) = cc

in_limits : (content : Bytes → Option Bytes) (name : Bytes) (lines : List Line) → ComesTo {A = List Line} content (within_limits lines) (Err (Refused (refusal.ReadFault name))) → ⊥
in_limits content name lines = by (passed_by lines) where
  by : (passed : Option (Limit × ℕ)) → ComesTo {A = List Line} content (unless_passed lines passed) (Err (Refused (refusal.ReadFault name))) → ⊥
  by None (inl wrong) = cc
  by None (inr wrong) = cc
  by (Some (limit, value)) (inl wrong) = cc
  by (Some (limit, value)) (inr wrong) = cc

pub in_sources : (content : Bytes → Option Bytes) (name : Bytes) (pairs : List (Bytes × Bytes)) (before : Sources)
    → ComesTo {A = Sources} content (sources_reading before pairs) (Err (Refused (refusal.ReadFault name))) → IsPathIn pairs name
in_sources content name [] before (inl wrong) = cc
in_sources content name [] before (inr wrong) = cc
in_sources content name (pair ∷ pairs) before comes = by (λ more rest. in_sources content name pairs more rest) (is_loaded before pair.1) comes where
  by : ((more : Sources) → ComesTo {A = Sources} content (sources_reading more pairs) (Err (Refused (refusal.ReadFault name))) → IsPathIn pairs name)
      → (b : Bool) → ComesTo {A = Sources} content (cond b (sources_reading before pairs) (then_reads (λ text. sources_reading (before ++ (pair.1, text) ∷ []) pairs) (text_reading limit.FileBytes pair.1))) (Err (Refused (refusal.ReadFault name)))
      → IsPathIn (pair ∷ pairs) name
  by rest true come = inr (rest before come)
  by rest false come =
      elim (comes_to-split content (λ text. sources_reading (before ++ (pair.1, text) ∷ []) pairs) (text_reading limit.FileBytes pair.1) (Refused (refusal.ReadFault name)) come) [
        | inl own ↦ inl (in_text content limit.FileBytes pair.1 name own)
        | inr (text, own, later) ↦ inr (rest (before ++ (pair.1, text) ∷ []) later)
      ]

in_script : (content : Bytes → Option Bytes) (schedule name : Bytes) → ComesTo {A = List Line} content (script_reading kind.Schedule schedule) (Err (Refused (refusal.ReadFault name))) → name ≡ schedule
in_script content schedule name come =
    elim (comes_to-split content (λ text. lines_or_bad schedule (lines_read kind.Schedule text)) (text_reading limit.ScriptBytes schedule) (Refused (refusal.ReadFault name)) come) [
      | inl own ↦ in_text content limit.ScriptBytes schedule name own
      | inr (text, own, later) ↦ absurd (in_lines content schedule name (lines_read kind.Schedule text) later)
    ]

-- a fault of reading names the schedule, or a path of its lines
pub fault_names : (content : Bytes → Option Bytes) (schedule name : Bytes) → ComesTo {A = List Line} content (schedule_reading schedule) (Err (Refused (refusal.ReadFault name))) → IsReadFor content schedule name
fault_names content schedule name come =
    elim (comes_to-split content with_sources (script_reading kind.Schedule schedule) (Refused (refusal.ReadFault name)) come) [
      | inl own ↦ inl (in_script content schedule name own)
      | inr (lines, read, later) ↦ inr (lines, read, from_sources lines later)
    ] where
      from_sources : (lines : List Line) → ComesTo {A = List Line} content (with_sources lines) (Err (Refused (refusal.ReadFault name))) → IsPathIn (pairs_in lines) name
      from_sources lines later =
          elim (comes_to-split content (λ sources. within_limits (map (line_with sources) lines)) (sources_reading [] (pairs_in lines)) (Refused (refusal.ReadFault name)) later) [
            | inl own ↦ in_sources content name (pairs_in lines) [] own
            | inr (sources, own, last) ↦ absurd (in_limits content name (map (line_with sources) lines) last)
          ]
