-- The texts that are known by their paths.
use Rattle.std.specs.Prelude.{◌≡◌, List}
use Rattle.std.specs.Str.{bytes_eq}
use Rattle.indexmap.specs.IndexMap.{IndexMap, get}
use Rattle.ask_history.specs.Sources.{text_of}
use Rattle.script_text.specs.Words.{Bytes}

abbrev pub Knows : {S : Type 0} → IndexMap Bytes Bytes S → List (Bytes × Bytes) → Type 0
Knows known sources = (path : Bytes) → get bytes_eq known path ≡ text_of sources path
