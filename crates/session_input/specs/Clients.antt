-- The input of a session of clients: their scripts, read as one.
use Rattle.std.specs.Prelude.{◌⊎◌, ◌≡◌, nat_lt, if◌then◌else◌, List, [], ◌∷◌, ◌++◌, length, map, Option, Ok}
use Rattle.pc_terms.specs.Bytes.{Bytes}
use Rattle.ask_history.specs.declared.script.Script.{Script}
use Rattle.script_text.specs.declared.kinds.ScriptKind.TheVariants as kind
use Rattle.script_text.specs.Reading.{lines_read}
use Rattle.script_text.specs.Texts.{script_with}
use Rattle.session_input.specs.Limits.{most_of}
use Rattle.session_input.specs.Reads.{Reading, Gives, Refuses, then_reads, ComesTo}
use Rattle.session_input.specs.Sources.{text_reading, lines_or_bad, pairs_in, lines_in, sources_reading}
use Rattle.session_input.specs.Counts.{passed_by}
use Rattle.session_input.specs.Input.{unless_passed}
use Rattle.session_input.specs.Faults.{IsPathIn}
use Rattle.session_input.specs.declared.limits.Limit.TheVariants as limit
use Rattle.session_input.specs.declared.refusal.Refusal.TheVariants as refusal

-- The texts of the scripts of these names, after those that were read so far, each with its name. A script that is named
-- twice is read twice.
abbrev pub texts_reading : List (Bytes × Bytes) → List Bytes → Reading (List (Bytes × Bytes))
texts_reading texts [] = Gives texts
texts_reading texts (name ∷ names) = then_reads (λ text. texts_reading (texts ++ (name, text) ∷ []) names) (text_reading limit.ScriptBytes name)

-- The scripts of these texts, after those so far. Paths stand in the place of texts.
abbrev pub scripts_reading : List Script → List (Bytes × Bytes) → Reading (List Script)
scripts_reading scripts [] = Gives scripts
scripts_reading scripts (named ∷ texts) =
    then_reads (λ lines. scripts_reading (scripts ++ record { lines = lines } ∷ []) texts) (lines_or_bad named.0 (lines_read kind.Client named.1))

-- First all texts are read, and then their lines.
abbrev pub named_scripts : List Bytes → Reading (List Script)
named_scripts names = then_reads (scripts_reading []) (texts_reading [] names)

-- Scripts with the texts of their paths, where all together are within the limits.
abbrev pub scripts_within : List Script → Reading (List Script)
scripts_within scripts = unless_passed scripts (passed_by (lines_in scripts))

abbrev pub scripts_with_sources : List Script → Reading (List Script)
scripts_with_sources scripts = then_reads (λ sources. scripts_within (map (script_with sources) scripts)) (sources_reading [] (pairs_in (lines_in scripts)))

-- The scripts of the clients of these names, with the texts of the sources that they name. First the clients are counted.
-- Then the scripts are read, then the sources that all of them name, and then what all count is held against the limits.
abbrev pub clients_reading : List Bytes → Reading (List Script)
clients_reading names =
    if nat_lt (most_of limit.Clients) (length names) then Refuses (refusal.Limit limit.Clients (length names))
    else then_reads scripts_with_sources (named_scripts names)

-- ---- which file a fault of reading names

abbrev pub IsOneOf : List Bytes → Bytes → Type 0
IsOneOf [] file = ⊥
IsOneOf (name ∷ names) file = (file ≡ name) ⊎ IsOneOf names file

-- one of the scripts, or a path of one of them
abbrev pub IsReadForClients : (Bytes → Option Bytes) → List Bytes → Bytes → Type 0
IsReadForClients content names file =
    IsOneOf names file ⊎ ((scripts : List Script) × ComesTo content (named_scripts names) (Ok scripts) × IsPathIn (pairs_in (lines_in scripts)) file)
