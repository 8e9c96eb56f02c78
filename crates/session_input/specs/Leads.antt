-- One part of a reading after another, where a reading goes along a list and keeps what it read.
use Rattle.std.specs.Prelude.{List, ◌++◌, Result, Err, Option}
use Rattle.pc_terms.specs.Bytes.{Bytes}
use Rattle.ask_history.specs.Sources.{Sources}
use Rattle.session_input.specs.Reads.{Reading, ComesTo}
use Rattle.session_input.specs.Sources.{sources_reading}
use Rattle.session_input.specs.declared.refusal.NoInput.{NoInput}

module _ {S X : Type 0} (reading : S → List X → Reading S) where
  -- With these read, what the rest comes to is what all come to.
  pub record Leads (content : Bytes → Option Bytes) (old new : S) (read : List X) : Type 0 where
    pub leads : (rest : List X) (result : Result S NoInput) → ComesTo content (reading new rest) result → ComesTo content (reading old (read ++ rest)) result

  -- At these the reading ends, whatever follows them.
  pub record Ends (content : Bytes → Option Bytes) (old : S) (read : List X) (none : NoInput) : Type 0 where
    pub ends : (rest : List X) → ComesTo {A = S} content (reading old (read ++ rest)) (Err none)

-- of the sources of pairs
abbrev pub LeadsOn : (Bytes → Option Bytes) → Sources → Sources → List (Bytes × Bytes) → Type 0
LeadsOn content old new pairs = Leads sources_reading content old new pairs

abbrev pub EndsAt : (Bytes → Option Bytes) → Sources → List (Bytes × Bytes) → NoInput → Type 0
EndsAt content old pairs none = Ends sources_reading content old pairs none
