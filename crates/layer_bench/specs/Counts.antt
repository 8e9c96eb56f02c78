-- The words for the layers, and what the layers give of a text.
use Rattle.std.specs.Prelude.{◌≡◌, ℕ, if◌then◌else◌, List, length, codes, Option, Some, None}
use Rattle.std.specs.Option.{IfSome}
use Rattle.std.specs.Str.{bytes_eq}
use Rattle.pc_terms.specs.Bytes.{Bytes}
use Rattle.positioned_trees.specs.declared.trees.SourceUnit.{SourceUnit}
use Rattle.positioned_trees.specs.declared.trees.Tree.TheViews.{out-Tree}
use Rattle.scan_tokens.specs.Scanned.{scanned}
use Rattle.source_grammar.specs.Lexemes.{Lexeme, lexemes}
use Rattle.source_grammar.specs.Patterns.{IsPattern}
use Rattle.source_grammar.specs.Types.{IsType}
use Rattle.parse_parts.specs.Parting.{IsPartAt}
use Rattle.parse_parts.specs.declared.parts.Part.{Part}
use Rattle.parse_parts.specs.declared.parts.Part.TheVariants.{Read, NotHere, TooHigh}
use Rattle.parse_exprs.specs.Parting.{expr_part}
use Rattle.tree_parser.specs.Read.{unit_of}
use Rattle.layer_bench.specs.declared.layers.Layer.{Layer}
use Rattle.layer_bench.specs.declared.layers.Layer.TheVariants.{Scan, Parts, Units, Locate}
use Rattle.layer_bench.specs.declared.layers.Reader.{Reader}
use Rattle.layer_bench.specs.declared.layers.Reader.TheVariants.{Types, Patterns, Exprs}

abbrev pub layer_named : Bytes → Option Layer
layer_named word =
    if bytes_eq word (codes "scan") then Some Scan
    else (if bytes_eq word (codes "types") then Some (Parts Types)
    else (if bytes_eq word (codes "patterns") then Some (Parts Patterns)
    else (if bytes_eq word (codes "exprs") then Some (Parts Exprs)
    else (if bytes_eq word (codes "units") then Some Units
    else (if bytes_eq word (codes "locate") then Some Locate else None)))))

abbrev pub layer_word : Option Bytes → Option Layer
layer_word None = None
layer_word (Some word) = layer_named word

abbrev pub end_of : Part → ℕ
end_of (Read tree behind) = behind
end_of (NotHere bad) = bad
end_of (TooHigh behind) = behind

-- what this reader reads at the first of these tokens
abbrev pub IsPartBy : Reader → List Lexeme → Part → Type 0
IsPartBy Types ts part = IsPartAt IsType ts 0 part
IsPartBy Patterns ts part = IsPartAt IsPattern ts 0 part
IsPartBy Exprs ts part = part ≡ expr_part ts 0

-- where ends what this reader reads
pub record IsEnd (reader : Reader) (ts : List Lexeme) (end : ℕ) : Type 0 where
  pub part : Part
  pub read : IsPartBy reader ts part
  pub ends : end ≡ end_of part

-- how many trees stand right below the root
abbrev pub kid_count : SourceUnit → ℕ
kid_count unit = length (out-Tree unit.root).kids

abbrev pub IsCount : Layer → Bytes → Option ℕ → Type 0
IsCount Scan text count = count ≡ Some (length (scanned text).tokens)
IsCount (Parts reader) text count = IfSome count (IsEnd reader (lexemes (scanned text)))
IsCount Units text count = count ≡ Some (kid_count (unit_of text))
IsCount Locate text count = Unit {0}
