-- What a tally keeps of reloaded pairs.
use Rattle.std.specs.Prelude.{◌≡◌, ◌<◌, ℕ, ◌+◌, ◌^◌, List, length, Option, Some, None, Bool, true, is_some, All, if◌then◌else◌}
use Rattle.std.specs.Str.{bytes_eq}
use Rattle.indexmap.specs.IndexMap.{get_by_text}
use Rattle.ask_history.specs.Sources.{Bytes}
use Rattle.work_queue.specs.Reloads.{text_bytes, longest, longer, usage_of}
use Rattle.work_queue.specs.declared.tally.Tally.{Tally}
use Rattle.work_queue.specs.declared.usage.Usage.{Usage}

-- where a name has room, what is kept for it
abbrev pub kept : Option (Option ℕ) → Option ℕ
kept None = None
kept (Some most) = most

abbrev pub known : Tally → Bytes → Option ℕ
known tally name = kept (get_by_text tally.longest name)

-- the tally is of these pairs
pub record IsTally (pairs : List (Bytes × Bytes)) (tally : Tally) : Type 0 where
  pub usage : tally.usage ≡ usage_of pairs
  pub longest : (name : Bytes) → known tally name ≡ longest pairs name

-- With these pairs too the counts fit 64 bits.
pub record AreCountable (usage : Usage) (pairs : List (Bytes × Bytes)) : Type 0 where
  pub text : usage.text + text_bytes pairs < 2 ^ 64
  pub names : usage.names + length pairs < 2 ^ 64
  pub map : usage.map + text_bytes pairs < 2 ^ 64

-- whether room is made for a name
abbrev pub has_room : Tally → Bytes → Bool
has_room tally name = is_some (get_by_text tally.longest name)

abbrev pub HasRoom : List (Bytes × Bytes) → Tally → Type 0
HasRoom pairs tally = All (λ pair. has_room tally pair.0 ≡ true) pairs

-- the new tally tells the same, and has no less room
pub record TellsSame (old new : Tally) : Type 0 where
  pub usage : new.usage ≡ old.usage
  pub longest : (name : Bytes) → known new name ≡ known old name
  pub room : (name : Bytes) → has_room old name ≡ true → has_room new name ≡ true

-- the new tally knows one text more, and has no less room
pub record Raises (old new : Tally) (name : Bytes) (len : ℕ) : Type 0 where
  pub usage : new.usage ≡ old.usage
  pub longest : (other : Bytes) → known new other ≡ longer (known old other) (if bytes_eq name other then Some len else None)
  pub room : (other : Bytes) → has_room old other ≡ true → has_room new other ≡ true
