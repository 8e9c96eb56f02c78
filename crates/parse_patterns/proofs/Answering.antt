-- The reader of patterns is one of the production of patterns.
use Rattle.std.proofs.Common.{◌≡◌, ◌≤◌, true, List, [], ◌∷◌, length, Option, Some, None, refl, ap, sym, ◌∙◌, append-nil, arith}
use Rattle.reading_machines.specs.Machines.{run, reading, reading_of}
use Rattle.reading_machines.specs.Parts.{anything}
use Rattle.reading_machines.proofs.Images.{pictured, reading-pictured-where}
use Rattle.positioned_trees.specs.declared.trees.Tree.{Tree}
use Rattle.source_grammar.specs.Lexemes.{Lexeme}
use Rattle.source_grammar.specs.Patterns.{LastOperand, pat_tree, IsPattern}
use Rattle.source_grammar.specs.Precedence.{are_of_one_side}
use Rattle.parse_parts.specs.declared.built.Tall.{Tall}
use Rattle.parse_parts.proofs.Derived.{is_some}
use Rattle.parse_parts.proofs.Readers.{Ended, ReadsParts}
use Rattle.parse_parts.proofs.Sizes.{size}
use Rattle.parse_patterns.specs.Reading.{begun, is_ended, reader}
use Rattle.parse_patterns.specs.Steps.{pattern_at, with_earlier}
use Rattle.parse_patterns.proofs.Derived as derived
use Rattle.parse_patterns.proofs.Derived.{spat_of, simple_in, alternative_at, pat_read}
use Rattle.parse_patterns.proofs.Exact.{whole-is, reads-patterns}
use Rattle.parse_patterns.proofs.Good.{Good, GoodCurrent, settled-operators, step-good, run-good, start-good}
use Rattle.parse_patterns.proofs.Moves.{whole-shown, some-infix, simple-shown, some-typed, step-same}
use Rattle.parse_patterns.proofs.Shown.{current_shown, earlier_shown, shown, OneSide, alternative-shown, pattern-shown}
use Rattle.parse_patterns.proofs.Sides.{operators_of}
use Rattle.parse_patterns.proofs.Sizes.{pat-size}

ended-shown : (c : derived.Current) → is_ended (current_shown c) ≡ is_some (alternative_at c)
ended-shown (derived.InType s p t) = simple-shown t ∙ sym (some-typed s p (simple_in t.frames t.heads t.tail))
ended-shown (derived.InInfix b os s) = whole-shown s ∙ sym (some-infix b os (spat_of s))

reader-whole : (s : derived.State) → (reader).whole (shown s) ≡ derived.whole_at s.frames s.current
reader-whole s = go s.frames where
  go : (fs : List derived.Frame) → (reader).whole (shown (record { frames = fs; earlier = s.earlier; current = s.current })) ≡ derived.whole_at fs s.current
  go [] = ended-shown s.current
  go (f ∷ fs) = refl

one-side : (s : derived.State) → Good s → OneSide s.current
one-side s g = go s.current g.current where
  go : (c : derived.Current) → GoodCurrent s.earlier c → OneSide c
  go (derived.InType t p u) h = tt
  go (derived.InInfix b os t) h = λ x e. ap are_of_one_side (settled-operators os (LastOperand x) ∙ append-nil (operators_of os)) ∙ h.level.operations.one_side

-- the reader comes as far as the machine, to the picture of its state
reader-reads : (ts : List Lexeme) → reading reader anything ts 0 None begun ≡ pictured shown (reading_of (derived.machine) anything ts)
reader-reads ts =
    reading-pictured-where shown (derived.machine) reader anything Good (λ s x g. step-same s x (one-side s g)) (λ s g. reader-whole s) step-good ts 0 None (derived.machine).start start-good

-- the pattern that ends in a whole state is one of the tokens read, with its tree as far as it is kept
ended : (xs : List Lexeme) (s : derived.State) → run derived.step xs (derived.machine).start ≡ Some s → derived.whole_at s.frames s.current ≡ true → Ended IsPattern xs (pattern_at (shown s))
ended xs s r w =
    let whole = whole-is xs s r w in
    record {
      tree = pat_tree (pat_read s.earlier whole.last);
      is = record { derivation = pat_read s.earlier whole.last; proper = whole.proper; tokens = whole.tokens; built = refl };
      made = ap (with_earlier (earlier_shown s.earlier)) (alternative-shown s.current whole.last (one-side s (run-good xs (derived.machine).start s r start-good)) whole.ends)
          ∙ pattern-shown s.earlier whole.last;
    }

small : (xs : List Lexeme) (tree : Tree) → IsPattern xs tree → size tree ≤ length xs
small xs tree is = omega (arith, pat-size is.derivation, ap size is.built, ap length is.tokens)

pub reads : ReadsParts IsPattern (derived.machine) reader shown pattern_at
reads = record { exact = reads-patterns; far = reader-reads; ended = ended; small = small }
