-- What the lines of a session count against the limits.
use Rattle.std.specs.Prelude.{◌≡◌, ◌<◌, ◌≤◌, ◌+◌, ◌*◌, ◌^◌, ℕ, nat_lt, if◌then◌else◌, List, ◌++◌, length, count_by, All, Option, Some, None}
use Rattle.std.specs.Option.{option_or}
use Rattle.std.specs.Str.{bytes_eq}
use Rattle.indexmap.specs.IndexMap.{get}
use Rattle.pc_terms.specs.Bytes.{Bytes, max_source_bytes}
use Rattle.ask_history.specs.Sources.{Sources}
use Rattle.ask_history.specs.declared.script.Line.{Line}
use Rattle.script_text.specs.Standing.{is_call_line}
use Rattle.script_text.specs.Texts.{text_at}
use Rattle.work_queue.specs.declared.usage.Usage.{Usage}
use Rattle.work_queue.specs.Reloads.{longest, usage_of}
use Rattle.session_input.specs.Limits.{most_of}
use Rattle.session_input.specs.Sources.{pairs_in}
use Rattle.session_input.specs.declared.limits.Limit.{Limit}
use Rattle.session_input.specs.declared.limits.Limit.TheVariants.{Clients, ScriptBytes, Calls, Text, Names, Map}
use Rattle.session_input.specs.declared.counts.Counts.{Counts}

-- a number that is above its limit, with the limit
abbrev pub passed : Limit → ℕ → Option (Limit × ℕ)
passed limit number = if nat_lt (most_of limit) number then Some (limit, number) else None

-- The first limit that is passed by so many call lines, whose reloads take up so much.
abbrev pub first_passed : ℕ → Usage → Option (Limit × ℕ)
first_passed calls usage =
    option_or (option_or (option_or (passed Calls calls) (passed Text usage.text)) (passed Names usage.names)) (passed Map usage.map)

-- the first limit that these lines pass, with their texts
abbrev pub passed_by : List Line → Option (Limit × ℕ)
passed_by lines = first_passed (count_by is_call_line lines) (usage_of (pairs_in lines))

-- ---- counting

-- what is counted of these names and texts
pub record AreCounted (pairs : List (Bytes × Bytes)) (counts : Counts) : Type 0 where
  pub usage : counts.usage ≡ usage_of pairs
  pub longest : (name : Bytes) → get bytes_eq counts.longest name ≡ longest pairs name

-- with so many texts more, none of which is longer than a file may be, the counts fit 64 bits
pub record HasRoom (texts : ℕ) (usage : Usage) : Type 0 where
  pub text : usage.text + max_source_bytes * texts < 2 ^ 64
  pub names : usage.names + texts < 2 ^ 64
  pub map : usage.map + max_source_bytes * texts < 2 ^ 64

-- these names and texts are counted too
pub record CountsMore (pairs : List (Bytes × Bytes)) (old new : Counts) : Type 0 where
  pub counted : (before : List (Bytes × Bytes)) → AreCounted before old → AreCounted (before ++ pairs) new
  pub room : (texts : ℕ) → HasRoom (length pairs + texts) old.usage → HasRoom texts new.usage

-- so many pairs have the scripts of as many clients as there may be, since each names no more than it has bytes
abbrev pub most_pairs : ℕ
most_pairs = most_of Clients * most_of ScriptBytes

-- each of these pairs has a text that is no longer than a file may be
abbrev pub HaveTexts : Sources → List (Bytes × Bytes) → Type 0
HaveTexts sources pairs = All (λ pair. length (text_at sources pair.1) ≤ max_source_bytes) pairs
