-- Which lines a text is, and which of its lines is the first outside the grammar.
use Rattle.std.specs.Prelude.{◌≡◌, ℕ, ◌+◌, true, false, ◌⊎◌, List, [], ◌∷◌, ◌++◌, take, slice_get, Some}
use Rattle.ask_history.specs.declared.script.Line.{Line}
use Rattle.script_text.specs.declared.kinds.ScriptKind.{ScriptKind}
use Rattle.script_text.specs.Words.{Bytes, lines_of, is_passed}
use Rattle.script_text.specs.LineText.{line_text}
use Rattle.script_text.specs.Standing.{holder_at, may_stand}

-- These bytes are the text of a line that may stand after these lines.
pub record IsLineAt (script : ScriptKind) (above : List Line) (line : Line) (bytes : Bytes) : Type 0 where
  pub text : bytes ≡ line_text (holder_at above line.level) line
  pub stands : may_stand script above line ≡ true

-- After the lines above, these lines of bytes say lines, with which all are these.
abbrev pub AreLines : ScriptKind → List Line → List Bytes → List Line → Type 0
AreLines script above [] all = all ≡ above
AreLines script above (bytes ∷ more) all =
    ((is_passed bytes ≡ true) × AreLines script above more all)
    ⊎ ((line : Line) × IsLineAt script above line bytes × AreLines script (above ++ line ∷ []) more all)

-- A text says these lines.
abbrev pub IsScript : ScriptKind → Bytes → List Line → Type 0
IsScript script text lines = AreLines script [] (lines_of text) lines

-- The line of this number, counted from 1, is the first outside the grammar: those before it say lines, and it is
-- neither passed over nor the text of a line that may stand after these.
pub record IsFirstBad (script : ScriptKind) (text : Bytes) (number : ℕ) : Type 0 where
  pub before : ℕ
  pub counted : number ≡ before + 1
  pub above : List Line
  pub read : AreLines script [] (take before (lines_of text)) above
  pub bytes : Bytes
  pub there : slice_get (lines_of text) before ≡ Some bytes
  pub not_passed : is_passed bytes ≡ false
  pub no_line : (line : Line) → IsLineAt script above line bytes → ⊥
