-- Statements of a list, found one after another.
use Rattle.std.proofs.Common.{◌≡◌, ℕ, zero, suc, ◌+◌, ◌-◌, ◌<◌, true, false, if◌then◌else◌, List, [], ◌∷◌, length, get_or, map, take, drop, drop-cons, length-drop, add-one, Option, Some, None, ◌≤◌, refl, ap, sym, ◌∙◌, arith}
use Rattle.std.proofs.Math.Seq.{take-length}
use Rattle.std.proofs.lemmas.List.{drop-map, drop-drop, take-map}
use Rattle.std.specs.Option.{ForSome}
use Rattle.pc_terms.specs.declared.problems.Span.{Span}
use Rattle.scan_tokens.specs.Words.{Bytes}
use Rattle.source_grammar.specs.Lexemes.{lexeme_of}
use Rattle.expr_steps.specs.Reading.{OneToken, Pair}
use Rattle.parse_exprs.specs.Items.{is_semicolon}
use Rattle.parse_exprs.specs.declared.items.Item.TheVariants as written
use Rattle.parse_exprs.specs.declared.lists.Cut.{Cut}
use Rattle.parse_exprs.specs.Lists.{cuts_behind, cut_at, cut_of, broken_length, over_all, items_span}
use Rattle.template_steps.specs.Pieces.{Part, OfItem, OfBody, of_parts, part_in, parts_in, symbol_at, span_at, span_of, separates, shape_of}
use Rattle.template_steps.specs.Statements.{statements, built_until}
use Rattle.template_steps.specs.declared.pieces.Piece.{Piece}
use Rattle.template_steps.specs.declared.pieces.Piece.TheVariants as piece
use Rattle.template_steps.specs.declared.statements.ListKind.{ListKind}

abbrev pub cuts_from : ListKind → ℕ → ℕ → List Part → List Cut
cuts_from kind n skip ps = cuts_behind of_parts (statements kind) built_until n skip ps

abbrev pub cut_in : ListKind → ℕ → List Part → Cut
cut_in kind skip ps = cut_at of_parts (statements kind) built_until skip ps

passed : (kind : ListKind) (n : ℕ) (ps : List Part) → cuts_from kind n 0 ps ≡ cuts_from kind 0 0 (drop n ps)
passed kind zero ps = refl
passed kind (suc n) [] = refl
passed kind (suc n) (p ∷ ps) = passed kind n ps

pub stands : (text : Bytes) (pieces : List Piece) (at : ℕ) (piece : Piece) → at < length pieces → piece ≡ get_or pieces at piece
    → parts_in text (drop at pieces) ≡ part_in text piece ∷ parts_in text (drop (at + 1) pieces)
stands text pieces at piece below is =
    ap (map (part_in text)) (drop-cons pieces at piece below ∙ ap (λ p. p ∷ drop (suc at) pieces) (sym is) ∙ ap (λ n. piece ∷ drop n pieces) (sym (add-one at)))

pub semicolon_on : (kind : ListKind) (skip : ℕ) (ps rest : List Part) (p : Part) → ps ≡ p ∷ rest → is_semicolon (symbol_at p) ≡ true
    → cuts_from kind 0 skip ps ≡ cuts_from kind 0 (skip + 1) rest
semicolon_on kind skip ps rest p e k =
    ap (cuts_from kind 0 skip) e ∙ ap (λ b. if b then cuts_from kind 0 (skip + 1) rest else cut ∷ cuts_from kind (cut.count - 1) 0 rest) k
  where
    cut : Cut
    cut = cut_in kind skip (p ∷ rest)

one_more : (kind : ListKind) (n : ℕ) (p : Part) (rest : List Part) → 0 < n → cuts_from kind (n - 1) 0 rest ≡ cuts_from kind 0 0 (drop n (p ∷ rest))
one_more kind zero p rest below = absurd (omega (arith, below))
one_more kind (suc n) p rest below =
    let e : suc n - 1 ≡ n = omega arith in
    ap (λ m. cuts_from kind m 0 rest) e ∙ passed kind n rest

pub cut_on : (kind : ListKind) (skip : ℕ) (ps rest : List Part) (p : Part) (cut : Cut) → ps ≡ p ∷ rest → is_semicolon (symbol_at p) ≡ false
    → cut ≡ cut_in kind skip ps → 0 < cut.count
    → cuts_from kind 0 skip ps ≡ cut ∷ cuts_from kind 0 0 (drop cut.count ps)
cut_on kind skip ps rest p cut e k c some =
    ap (cuts_from kind 0 skip) e
    ∙ ap (λ b. if b then cuts_from kind 0 (skip + 1) rest else there ∷ cuts_from kind (there.count - 1) 0 rest) k
    ∙ ap (λ (c : Cut). c ∷ cuts_from kind (c.count - 1) 0 rest) (sym (c ∙ ap (cut_in kind skip) e))
    ∙ ap (λ l. cut ∷ l) (one_more kind cut.count p rest some ∙ ap (λ l. cuts_from kind 0 0 (drop cut.count l)) (sym e))
  where
    there : Cut
    there = cut_in kind skip (p ∷ rest)

pub all_behind : {X : Type 0} (xs : List X) (at : ℕ) → take (length xs - at) (drop at xs) ≡ drop at xs
all_behind xs at = ap (λ n. take n (drop at xs)) (sym (length-drop at xs)) ∙ take-length (drop at xs)

pub behind_cut : (text : Bytes) (pieces : List Piece) (at count : ℕ) → drop count (parts_in text (drop at pieces)) ≡ parts_in text (drop (at + count) pieces)
behind_cut text pieces at count = drop-map (part_in text) count (drop at pieces) ∙ ap (map (part_in text)) (drop-drop count at pieces)

-- ---- spans

part_span : (text : Bytes) (p : Piece) → span_at (part_in text p) ≡ span_of p
unfolding lexeme_of
part_span text (piece.Item (written.Token token)) = refl
part_span text (piece.Item (written.Braces b)) = refl
part_span text (piece.Body body) = refl

pub spans_in : (text : Bytes) (pieces : List Piece) → map span_at (parts_in text pieces) ≡ map span_of pieces
spans_in text [] = refl
spans_in text (p ∷ ps) = λ i. part_span text p i ∷ spans_in text ps i

-- of the first pieces
pub first_span : (text : Bytes) (count : ℕ) (pieces : List Piece) → over_all (map span_of (take count pieces)) ≡ items_span of_parts (take count (parts_in text pieces))
first_span text count pieces = sym (ap (items_span of_parts) (take-map (part_in text) count pieces) ∙ ap over_all (spans_in text (take count pieces)))

pub broken_cut : (text : Bytes) (skip : ℕ) (pieces : List Piece) (count : ℕ) (span : Span) → count ≡ broken_length of_parts (parts_in text pieces)
    → span ≡ over_all (map span_of (take count pieces))
    → record { skip = skip; count = count; broken = true; span = span } ≡ cut_of of_parts skip None (parts_in text pieces)
broken_cut text skip pieces count span e s =
    ap (λ (there : Span). record { skip = skip; count = count; broken = true; span = there }) (s ∙ first_span text count pieces)
    ∙ ap (λ n. record { skip = skip; count = n; broken = true; span = items_span of_parts (take n (parts_in text pieces)) }) e

pub cut_within : (skip : ℕ) (best : Option ℕ) (ps : List Part) (most : ℕ) → ForSome best (λ count. count ≤ most) → broken_length of_parts ps ≤ most
    → (cut_of of_parts skip best ps).count ≤ most
cut_within skip None ps most within broken = broken
cut_within skip (Some count) ps most within broken = within count refl

-- ---- shapes

pub shape_separates : (p : Part) → separates (shape_of p) ≡ separates p
shape_separates (OfItem (OneToken x)) = refl
shape_separates (OfItem (Pair b)) = refl
shape_separates (OfBody b) = refl
