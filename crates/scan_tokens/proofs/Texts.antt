-- A text and its characters.
use Rattle.std.proofs.Common.{◌≡◌, ℕ, List, length, ap}
use Rattle.std.specs.Str.{chars, IsUtf8}
use Rattle.std.proofs.lemmas.Str.{encodes-chars}
use Rattle.scan_tokens.specs.Characters.{byte_len}

pub byte_len-chars : (text : List ℕ) → IsUtf8 text → byte_len (chars text) ≡ length text
byte_len-chars text utf8 = ap length (encodes-chars text utf8)
