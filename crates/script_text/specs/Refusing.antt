-- What reading a text answers.
use Rattle.std.specs.Prelude.{◌≡◌, ℕ, List, Result, Ok, Err}
use Rattle.ask_history.specs.declared.script.Line.{Line}
use Rattle.script_text.specs.declared.kinds.ScriptKind.{ScriptKind}
use Rattle.script_text.specs.declared.refused.ScriptRefused.{ScriptRefused}
use Rattle.script_text.specs.declared.refused.ScriptRefused.TheVariants.{BadLine, NoMemory}
use Rattle.script_text.specs.Words.{Bytes}
use Rattle.script_text.specs.Grammar.{IsFirstBad}

-- A text is refused at its first line outside the grammar, or because there was no memory.
abbrev pub IsRefused : ScriptKind → Bytes → ScriptRefused → Type 0
IsRefused script text (BadLine number) = IsFirstBad script text number
IsRefused script text NoMemory = Unit {0}

-- the lines that are read, or the number of the first bad one, unless there was no memory
abbrev pub IsReading : {A : Type 0} → (A → List Line) → Result (List Line) ℕ → Result A ScriptRefused → Type 0
IsReading lines reading (Ok a) = reading ≡ Ok (lines a)
IsReading lines reading (Err (BadLine number)) = reading ≡ Err number
IsReading lines reading (Err NoMemory) = Unit {0}
