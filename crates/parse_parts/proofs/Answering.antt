-- The reader of types is one of the production of types.
use Rattle.std.proofs.Common.{◌≡◌, ◌≤◌, true, List, [], ◌∷◌, length, Option, Some, None, refl, ap, arith}
use Rattle.reading_machines.specs.Machines.{run, reading, reading_of}
use Rattle.reading_machines.specs.Parts.{anything}
use Rattle.reading_machines.proofs.Images.{pictured, reading-pictured}
use Rattle.positioned_trees.specs.declared.trees.Tree.{Tree}
use Rattle.source_grammar.specs.Lexemes.{Lexeme}
use Rattle.source_grammar.specs.Types.{type_tree, IsType}
use Rattle.parse_parts.specs.declared.built.Tall.{Tall}
use Rattle.parse_parts.specs.declared.states.State.{State}
use Rattle.parse_parts.specs.Reading.{begun, reader}
use Rattle.parse_parts.specs.Steps.{type_at}
use Rattle.parse_parts.proofs.Derived as derived
use Rattle.parse_parts.proofs.Exact.{reads-types}
use Rattle.parse_parts.proofs.Moves.{whole-same, step-same}
use Rattle.parse_parts.proofs.Readers.{Ended, ReadsParts}
use Rattle.parse_parts.proofs.Shown.{shown, type-shown}
use Rattle.parse_parts.proofs.Sizes.{size, type-size}
use Rattle.parse_parts.proofs.Sound.{whole-is, type_read, whole-tokens}

-- the type of a state
abbrev pub type_in : State → Option Tall
type_in s = type_at s.heads s.tail

reader-whole : (s : derived.State) → (reader).whole (shown s) ≡ derived.whole_at s.frames s.tail
reader-whole s = go s.frames where
  go : (fs : List derived.Frame) → (reader).whole (shown (record { frames = fs; heads = s.heads; tail = s.tail })) ≡ derived.whole_at fs s.tail
  go [] = whole-same s.tail
  go (f ∷ fs) = refl

-- the reader comes as far as the machine, to the picture of its state
reader-reads : (ts : List Lexeme) → reading reader anything ts 0 None begun ≡ pictured shown (reading_of (derived.machine) anything ts)
reader-reads ts = reading-pictured shown (derived.machine) reader anything step-same reader-whole ts 0 None (derived.machine).start

-- the type that ends in a whole state is one of the tokens read, with its tree as far as it is kept
ended : (xs : List Lexeme) (s : derived.State) → run derived.step xs (derived.machine).start ≡ Some s → derived.whole_at s.frames s.tail ≡ true
    → Ended IsType xs (type_in (shown s))
ended xs s r w =
    let whole = whole-is s w in
    record {
      tree = type_tree (type_read s.heads whole.simple);
      is = record { derivation = type_read s.heads whole.simple; tokens = whole-tokens xs s r whole; built = refl };
      made = type-shown s.heads s.tail whole.simple whole.ends;
    }

small : (xs : List Lexeme) (tree : Tree) → IsType xs tree → size tree ≤ length xs
small xs tree is = omega (arith, type-size is.derivation, ap size is.built, ap length is.tokens)

pub reads : ReadsParts IsType (derived.machine) reader shown type_in
reads = record { exact = reads-types; far = reader-reads; ended = ended; small = small }
