-- The files of a session: a script, and then the sources that it names.
use Rattle.std.specs.Prelude.{ℕ, ◌+◌, ◌==◌, nat_lt, if◌then◌else◌, Bool, true, List, [], ◌∷◌, ◌++◌, length, Result, Ok, Err}
use Rattle.std.specs.List.{flat_map}
use Rattle.std.specs.Str.Lossy.{utf8_valid_len}
use Rattle.pc_terms.specs.Bytes.{Bytes}
use Rattle.ask_history.specs.Sources.{Sources, is_loaded}
use Rattle.ask_history.specs.Engine.{has_file_names}
use Rattle.ask_history.specs.declared.script.Order.{Order}
use Rattle.ask_history.specs.declared.script.Order.TheVariants as order
use Rattle.ask_history.specs.declared.script.Line.{Line}
use Rattle.ask_history.specs.declared.script.Script.{Script}
use Rattle.script_text.specs.declared.kinds.ScriptKind.{ScriptKind}
use Rattle.script_text.specs.Reading.{lines_read}
use Rattle.work_queue.specs.Reloads.{reloaded_by}
use Rattle.session_input.specs.Limits.{most_of}
use Rattle.session_input.specs.Reads.{Reading, Gives, Refuses, Reads, then_reads}
use Rattle.session_input.specs.declared.limits.Limit.{Limit}
use Rattle.session_input.specs.declared.limits.Limit.TheVariants as limit
use Rattle.session_input.specs.declared.refusal.Refusal.TheVariants.{BadScript, Limit as PastLimit, NotUtf8}

-- ---- one file

-- The bytes of a file, where they are within the limit and UTF-8.
abbrev pub accepted : Limit → Bytes → Bytes → Reading Bytes
accepted limit name bytes =
    if nat_lt (most_of limit) (length bytes) then Refuses (PastLimit limit (most_of limit + 1))
    else (if utf8_valid_len bytes == length bytes then Gives bytes else Refuses (NotUtf8 name (utf8_valid_len bytes)))

abbrev pub text_reading : Limit → Bytes → Reading Bytes
text_reading limit name = Reads limit name (accepted limit name)

-- ---- a script

abbrev pub lines_or_bad : Bytes → Result (List Line) ℕ → Reading (List Line)
lines_or_bad name (Ok lines) = Gives lines
lines_or_bad name (Err number) = Refuses (BadScript name number)

-- The lines of a script, in which paths stand in the place of texts.
abbrev pub script_reading : ScriptKind → Bytes → Reading (List Line)
script_reading kind name = then_reads (λ text. lines_or_bad name (lines_read kind text)) (text_reading limit.ScriptBytes name)

-- ---- its sources

-- what a line reloads: names, each with its text, or, where that is not known yet, its path
abbrev pub pairs_of : Order → List (Bytes × Bytes)
pairs_of (order.Call call) = reloaded_by call
pairs_of _ = []

abbrev pub pairs_in : List Line → List (Bytes × Bytes)
pairs_in lines = flat_map (λ line. pairs_of line.order) lines

-- the lines of several scripts, one script after the other
abbrev pub lines_in : List Script → List Line
lines_in scripts = flat_map (λ script. script.lines) scripts

abbrev pub order_names_files : Order → Bool
order_names_files (order.Call call) = has_file_names call
order_names_files _ = true

-- every file that a line names has a name that a file may have
abbrev pub names_files : Line → Bool
names_files line = order_names_files line.order

-- The texts of the paths of these pairs, after the sources that were read so far. Each path is read once, where it is
-- named first.
abbrev pub sources_reading : Sources → List (Bytes × Bytes) → Reading Sources
sources_reading sources [] = Gives sources
sources_reading sources (pair ∷ pairs) =
    if is_loaded sources pair.1 then sources_reading sources pairs
    else then_reads (λ text. sources_reading (sources ++ (pair.1, text) ∷ []) pairs) (text_reading limit.FileBytes pair.1)
