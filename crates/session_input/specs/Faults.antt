-- When a fault of reading is told.
use Rattle.std.specs.Prelude.{◌≡◌, ◌≤◌, ◌⊎◌, ℕ, List, [], ◌∷◌, Option, Result, Ok, Err, IfSome}
use Rattle.pc_terms.specs.Bytes.{Bytes}
use Rattle.pc_outside.specs.Outside.{Rose}
use Rattle.ask_history.specs.declared.script.Line.{Line}
use Rattle.script_text.specs.declared.kinds.ScriptKind.TheVariants as kind
use Rattle.session_input.specs.Reads.{ComesTo}
use Rattle.session_input.specs.Sources.{script_reading, pairs_in}
use Rattle.session_input.specs.declared.refusal.Refusal.{Refusal}
use Rattle.session_input.specs.declared.refusal.Refusal.TheVariants.{ReadFault}
use Rattle.session_input.specs.declared.refusal.NoInput.{NoInput}
use Rattle.session_input.specs.declared.refusal.NoInput.TheVariants.{Refused}

-- A fault of reading comes exactly where the count of faults rose, and names the last read that failed, where that is told.
abbrev pub RoseIfFault : Refusal → ℕ → ℕ → Option Bytes → Type 0
RoseIfFault (ReadFault name) before now last = Rose before now × IfSome last (λ failed. failed ≡ name)
RoseIfFault _ before now last = now ≡ before

-- what a reading that came to this did to the count of faults
abbrev pub CountsFaults : {A : Type 0} → Result A NoInput → ℕ → ℕ → Option Bytes → Type 0
CountsFaults (Err (Refused why)) before now last = (before ≤ now) × RoseIfFault why before now last
CountsFaults _ before now last = now ≡ before

-- ---- which file a fault of reading names

-- the path of one of these pairs
abbrev pub IsPathIn : List (Bytes × Bytes) → Bytes → Type 0
IsPathIn [] file = ⊥
IsPathIn (pair ∷ pairs) file = (file ≡ pair.1) ⊎ IsPathIn pairs file

-- the schedule, or a path of one of the lines that it has
abbrev pub IsReadFor : (Bytes → Option Bytes) → Bytes → Bytes → Type 0
IsReadFor content schedule file =
    (file ≡ schedule) ⊎ ((lines : List Line) × ComesTo content (script_reading kind.Schedule schedule) (Ok lines) × IsPathIn (pairs_in lines) file)
