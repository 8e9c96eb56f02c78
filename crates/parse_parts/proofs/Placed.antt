-- The tree that is read stands within the text.
use Rattle.std.proofs.Common.{◌≡◌, ℕ, ◌-◌, ◌≤◌, List, [], ◌∷◌, zero, suc, length, map, take, drop, sym, subst, arith}
use Rattle.std.proofs.lemmas.List.Elements.{All-weaker}
use Rattle.positioned_trees.specs.Located.{EnclosesKids, KeepsKidsApart, Stands, max_height}
use Rattle.positioned_trees.specs.Trees.{all_trees, numbered}
use Rattle.positioned_trees.specs.declared.trees.Tree.{Tree}
use Rattle.positioned_trees.proofs.Apart.{stays_apart}
use Rattle.positioned_trees.proofs.PreOrder.{keeps_places, span_kept}
use Rattle.scan_tokens.specs.declared.tokens.Token.{Token}
use Rattle.scan_tokens.specs.declared.tokens.Tokens.{Tokens}
use Rattle.scan_tokens.specs.Order.{AreInOrder}
use Rattle.scan_tokens.specs.Scanned.{scanned}
use Rattle.scan_tokens.specs.Words.{Bytes}
use Rattle.scan_tokens.proofs.ScannedLemmas.{scanned-order}
use Rattle.source_grammar.specs.Lexemes.{Lexeme, lexeme_of, lexemes}
use Rattle.source_grammar.specs.Reading.{Production}
use Rattle.parse_parts.specs.declared.parts.Part.{Part}
use Rattle.parse_parts.specs.declared.parts.Part.TheVariants.{Read, NotHere, TooHigh}
use Rattle.parse_parts.specs.Parting.{IsPartAt}
use Rattle.parse_parts.specs.Standing.{StandsWithin, IsPlacedPart}
use Rattle.parse_parts.proofs.GroupsSit.{SitsWhere}
use Rattle.parse_parts.proofs.Sitting.{IsSound, SitsBetween}
use Rattle.parse_parts.proofs.TokensStand.{StandBetween, token-order}

lexemes-stand : (text : Bytes) (total at : ℕ) (ts : List Token) → at ≤ total → AreInOrder total at ts → StandBetween at (map (lexeme_of text) ts) total
unfolding lexeme_of
lexemes-stand text total at [] within order = within
lexemes-stand text total at (t ∷ ts) within order = (order.0, order.1.0, lexemes-stand text total t.span.end ts order.1.1 order.2)

found-stand : (found : Tokens) → found ≡ scanned found.text → StandBetween 0 (lexemes found) (length found.text)
unfolding lexemes
found-stand found is =
    lexemes-stand found.text (length found.text) 0 found.tokens (omega arith)
    (subst (λ f. AreInOrder (length found.text) 0 f.tokens) (sym is) (scanned-order found.text))

take-stand : (low high n : ℕ) (xs : List Lexeme) → StandBetween low xs high → StandBetween low (take n xs) high
take-stand low high zero xs s = token-order low high xs s
take-stand low high (suc n) [] s = s
take-stand low high (suc n) (x ∷ xs) s = (s.0, s.1, take-stand x.place.span.end high n xs s.2)

drop-stand : (low high n : ℕ) (xs : List Lexeme) → StandBetween low xs high → StandBetween low (drop n xs) high
drop-stand low high zero xs s = s
drop-stand low high (suc n) [] s = s
drop-stand low high (suc n) (x ∷ xs) s = earlier x.place.span.end (drop n xs) (omega (arith, s.0, s.1)) (drop-stand x.place.span.end high n xs s.2) where
  earlier : (from : ℕ) (ys : List Lexeme) → low ≤ from → StandBetween from ys high → StandBetween low ys high
  earlier from [] le t = omega arith
  earlier from (y ∷ ys) le t = (omega (arith, le, t.0), t.1, t.2)

numbered-within : (total : ℕ) (tree read : Tree) → SitsBetween 0 tree total → Stands max_height tree → read ≡ (numbered tree 0).tree → StandsWithin total read
numbered-within total tree read s stands is =
    subst (StandsWithin total) (sym is)
    (record {
      stands = keeps_places tree 0 max_height stands;
      apart = stays_apart tree 0 (All-weaker IsSound KeepsKidsApart (λ t sound. sound.apart) (all_trees tree) s.sound);
      order = subst (λ span. span.start ≤ span.end) (sym (span_kept tree 0)) s.order;
      within = subst (λ span. span.end ≤ total) (sym (span_kept tree 0)) s.ends;
    })

pub placed-part : (Is : Production) → ((xs : List Lexeme) (tree : Tree) → Is xs tree → SitsWhere xs tree)
    → (found : Tokens) (at : ℕ) (part : Part) → found ≡ scanned found.text → IsPartAt Is (drop at (lexemes found)) at part → IsPlacedPart (length found.text) part
placed-part Is sits found at (Read tree behind) is (le, read) =
    let ts : List Lexeme = drop at (lexemes found) in
    let total : ℕ = length found.text in
    let s : SitsBetween 0 read.tree total =
    sits (take (behind - at) ts) read.tree read.part.part 0 total (take-stand 0 total (behind - at) ts (drop-stand 0 total at (lexemes found) (found-stand found is))) in
    numbered-within total read.tree tree s
    (record { low = read.low; encloses = All-weaker IsSound EnclosesKids (λ t sound. sound.encloses) (all_trees read.tree) s.sound }) read.numbers
placed-part Is sits found at (NotHere bad) is at_is = tt
placed-part Is sits found at (TooHigh behind) is at_is = tt
