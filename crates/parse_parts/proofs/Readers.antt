-- What a reader of one production comes to, in the words of the grammar. Each reader owes the one record below, and the rest follows.
use Rattle.std.proofs.Common.{◌≡◌, ℕ, ◌+◌, ◌-◌, ◌≤◌, true, List, length, map, take, drop, Option, Some, None, refl, ap, sym, ◌∙◌, subst, length-take, arith}
use Rattle.std.proofs.lemmas.List.{drop-map, length-map}
use Rattle.reading_machines.specs.Laws.{ReadsExactly, LeadsToWhole}
use Rattle.reading_machines.specs.Machines.{Machine, run, reading_of}
use Rattle.reading_machines.specs.Parts.{anything, IsBest, IsLongest, HasNone, IsStuckAt}
use Rattle.reading_machines.proofs.Images.{pictured, reading-through}
use Rattle.reading_machines.proofs.Longest.{started-far, reads-longest, reads-stuck, best-runs}
use Rattle.positioned_trees.specs.Trees.{height, numbered, max_number}
use Rattle.positioned_trees.specs.declared.trees.Tree.{Tree}
use Rattle.scan_tokens.specs.declared.tokens.Token.{Token}
use Rattle.scan_tokens.specs.declared.tokens.Tokens.{Tokens}
use Rattle.scan_tokens.specs.Words.{Bytes}
use Rattle.source_grammar.specs.Lexemes.{Lexeme, lexeme_of, lexemes}
use Rattle.source_grammar.specs.Reading.{Production, IsLongestPart, IsRead, IsNotHere, IsTooHigh}
use Rattle.parse_parts.specs.declared.built.Tall.{Tall}
use Rattle.parse_parts.specs.declared.parts.Part.{Part}
use Rattle.parse_parts.specs.declared.parts.Part.TheVariants.{NotHere}
use Rattle.parse_parts.specs.Built.{max_height}
use Rattle.parse_parts.specs.Parting.{IsSomePart, IsPartAt, part_of}
use Rattle.parse_parts.proofs.Kept.{kept, kept-some, kept-none}
use Rattle.parse_parts.proofs.Sizes.{size, counted}

-- what ends in a whole state is a part of the tokens read, with its tree as far as it is kept
pub record Ended (Is : Production) (xs : List Lexeme) (tall : Option Tall) : Type 0 where
  pub tree : Tree
  pub is : Is xs tree
  pub made : tall ≡ kept tree

-- The states of the reader are pictures of those of a machine that reads exactly the parts, a whole state has the tree of what was read, and a
-- part has no more trees than tokens.
pub record ReadsParts {M S : Type 0} (Is : Production) (m : Machine M Lexeme) (reader : Machine S Lexeme) (shown : M → S) (built : S → Option Tall) : Type 0 where
  pub exact : ReadsExactly (IsSomePart Is) m
  pub far : (ts : List Lexeme) → reading_of reader anything ts ≡ pictured shown (reading_of m anything ts)
  pub ended : (xs : List Lexeme) (s : M) → run m.step xs m.start ≡ Some s → m.whole s ≡ true → Ended Is xs (built (shown s))
  pub small : (xs : List Lexeme) (tree : Tree) → Is xs tree → size tree ≤ length xs

-- the longest part, with its tree as far as it is kept
pub record IsFound {S : Type 0} (Is : Production) (built : S → Option Tall) (ts : List Lexeme) (count : ℕ) (s : S) : Type 0 where
  pub tree : Tree
  pub part : IsLongestPart Is ts tree count
  pub made : built s ≡ kept tree

-- ---- machines alone

-- the reader stopped behind the part
pub behind-here : {S : Type 0} (reader : Machine S Lexeme) (ts : List Lexeme) (s : S) (n count : ℕ) (best : Option ℕ)
    → reading_of reader anything ts ≡ record { state = s; reached = n; best = best } → count ≡ n → run reader.step (take count ts) reader.start ≡ Some s
behind-here reader ts s n count best e same =
    ap (λ k. run reader.step (take k ts) reader.start) (same ∙ sym (ap (λ r. r.reached) e)) ∙ (started-far reader anything ts).runs ∙ ap (λ r. Some r.state) e

-- the reader went further, and has read the part once more
pub behind-again : {S : Type 0} (reader : Machine S Lexeme) (ts : List Lexeme) (s again : S) (n count m : ℕ) (best : Option ℕ)
    → reading_of reader anything ts ≡ record { state = s; reached = n; best = Some count }
    → reading_of reader anything (take count ts) ≡ record { state = again; reached = m; best = best } → run reader.step (take count ts) reader.start ≡ Some again
behind-again reader ts s again n count m best e f =
    let l = best-runs reader anything ts count (ap (λ r. r.best) e) in
    l.runs ∙ ap (λ t. Some t) (sym (reading-through reader anything (take count ts) 0 None reader.start l.state l.runs) ∙ ap (λ r. r.state) f)

pub with-best : {S : Type 0} (reader : Machine S Lexeme) (ts : List Lexeme) (s : S) (n : ℕ) (best now : Option ℕ)
    → reading_of reader anything ts ≡ record { state = s; reached = n; best = best } → best ≡ now → reading_of reader anything ts ≡ record { state = s; reached = n; best = now }
with-best reader ts s n best now e is = e ∙ ap (λ b. record { state = s; reached = n; best = b }) is

pub reached-within : {S : Type 0} (reader : Machine S Lexeme) (text : Bytes) (tokens : List Token) (s : S) (n : ℕ) (best : Option ℕ)
    → reading_of reader anything (map (lexeme_of text) tokens) ≡ record { state = s; reached = n; best = best } → n ≤ length tokens
reached-within reader text tokens s n best e =
    let far : (reading_of reader anything (map (lexeme_of text) tokens)).reached ≤ length (map (lexeme_of text) tokens) = (started-far reader anything (map (lexeme_of text) tokens)).within in
    omega (arith, ap (λ r. r.reached) e, length-map tokens (lexeme_of text))

behind : (at n : ℕ) → n ≡ at + n - at
behind at n = omega arith

pub from-there : (Is : Production) (found : Tokens) (text : Bytes) (at : ℕ) (rest : List Token) (part : Part) → text ≡ found.text → rest ≡ drop at found.tokens
    → IsPartAt Is (map (lexeme_of text) rest) at part → IsPartAt Is (drop at (lexemes found)) at part
unfolding lexemes
from-there Is found text at rest part same here is =
    subst (λ ts. IsPartAt Is ts at part)
    (ap (λ t. map (lexeme_of t) rest) same ∙ ap (map (lexeme_of found.text)) here ∙ sym (drop-map (lexeme_of found.text) at found.tokens)) is

-- ---- a reader of a production

module _ {M S : Type 0} {Is : Production} {m : Machine M Lexeme} {reader : Machine S Lexeme} {shown : M → S} {built : S → Option Tall}
    (reads : ReadsParts Is m reader shown built) where
  best-there : (ts : List Lexeme) (s : S) (n : ℕ) (best : Option ℕ)
      → reading_of reader anything ts ≡ record { state = s; reached = n; best = best } → (reading_of m anything ts).best ≡ best
  best-there ts s n best e = ap (λ r. r.best) (sym (reads.far ts) ∙ e)

  reached-there : (ts : List Lexeme) (s : S) (n : ℕ) (best : Option ℕ)
      → reading_of reader anything ts ≡ record { state = s; reached = n; best = best } → (reading_of m anything ts).reached ≡ n
  reached-there ts s n best e = ap (λ r. r.reached) (sym (reads.far ts) ∙ e)

  not-here : (ts : List Lexeme) (s : S) (n : ℕ) → reading_of reader anything ts ≡ record { state = s; reached = n; best = None } → IsNotHere Is ts n
  not-here ts s n e =
      let none : HasNone (IsSomePart Is) anything ts =
      subst (IsBest (IsSomePart Is) anything ts) (best-there ts s n None e) (reads-longest (IsSomePart Is) m anything ts reads.exact) in
      let at : IsStuckAt (IsSomePart Is) ts n = subst (IsStuckAt (IsSomePart Is) ts) (reached-there ts s n None e) (reads-stuck (IsSomePart Is) m anything ts reads.exact) in
      record {
        within = at.within;
        none = λ k tree within is. none k within (record { tree = tree; is = is }) refl;
        begins = record { others = at.begins.others; tree = at.begins.part.tree; part = at.begins.part.is };
        stuck = λ lt can. at.stuck lt (record { others = can.others; part = record { tree = can.tree; is = can.part } });
      }

  longest-there : (ts : List Lexeme) (s : S) (n count : ℕ) → reading_of reader anything ts ≡ record { state = s; reached = n; best = Some count }
      → IsLongest (IsSomePart Is) anything ts count
  longest-there ts s n count e =
      subst (IsBest (IsSomePart Is) anything ts) (best-there ts s n (Some count) e) (reads-longest (IsSomePart Is) m anything ts reads.exact)

  found-at : (ts : List Lexeme) (count : ℕ) (s : S) → IsLongest (IsSomePart Is) anything ts count → (l : LeadsToWhole m (take count ts))
      → shown l.state ≡ s → IsFound Is built ts count s
  found-at ts count s longest l same =
      let there = reads.ended (take count ts) l.state l.runs l.whole in
      record {
        tree = there.tree;
        part = record { within = longest.within; part = there.is; longest = λ k other within is. longest.longest k within (record { tree = other; is = is }) refl };
        made = ap built (sym same) ∙ there.made;
      }

  pub found-behind : (ts : List Lexeme) (s again : S) (n count : ℕ) → reading_of reader anything ts ≡ record { state = s; reached = n; best = Some count }
      → run reader.step (take count ts) reader.start ≡ Some again → IsFound Is built ts count again
  found-behind ts s again n count e runs =
      let l = best-runs m anything ts count (best-there ts s n (Some count) e) in
      let state : (reading_of m anything (take count ts)).state ≡ l.state = reading-through m anything (take count ts) 0 None m.start l.state l.runs in
      let there : (reading_of reader anything (take count ts)).state ≡ again = reading-through reader anything (take count ts) 0 None reader.start again runs in
      found-at ts count again (longest-there ts s n count e) l (ap shown (sym state) ∙ ap (λ r. r.state) (sym (reads.far (take count ts))) ∙ there)

  pub found-low : (ts : List Lexeme) (count : ℕ) (s : S) (tall : Tall) → IsFound Is built ts count s → Some tall ≡ built s → height tall.tree ≤ max_height
  found-low ts count s tall found e =
      let k = kept-some found.tree tall (e ∙ found.made) in subst (λ t. height t ≤ max_height) (sym k.0) k.1

  -- the numbers of its trees fit
  pub found-fits : (ts : List Lexeme) (count : ℕ) (s : S) (tall : Tall) → IsFound Is built ts count s → Some tall ≡ built s
      → length ts ≤ max_number → (numbered tall.tree 0).next ≤ max_number
  found-fits ts count s tall found e few =
      let k = kept-some found.tree tall (e ∙ found.made) in
      let small : size found.tree ≤ length (take count ts) = reads.small (take count ts) found.tree found.part.part in
      let next : (numbered found.tree 0).next ≡ 0 + size found.tree = counted found.tree 0 in
      let same : (numbered tall.tree 0).next ≡ (numbered found.tree 0).next = ap (λ t. (numbered t 0).next) k.0 in
      omega (arith, length-take count ts)

  pub not-here-at : (ts : List Lexeme) (at : ℕ) (s : S) (n : ℕ) → reading_of reader anything ts ≡ record { state = s; reached = n; best = None }
      → IsPartAt Is ts at (NotHere (at + n))
  not-here-at ts at s n e = (omega arith, subst (IsNotHere Is ts) (behind at n) (not-here ts s n e))

  pub part-at : (ts : List Lexeme) (at count : ℕ) (s : S) (tall : Option Tall) → IsFound Is built ts count s → tall ≡ built s
      → IsPartAt Is ts at (part_of tall (at + count))
  part-at ts at count s (Some tall) found e =
      let k = kept-some found.tree tall (e ∙ found.made) in
      let read : IsRead Is ts (numbered tall.tree 0).tree count =
      record { tree = found.tree; part = found.part; low = k.1; numbers = ap (λ t. (numbered t 0).tree) k.0 } in
      (omega arith, subst (IsRead Is ts (numbered tall.tree 0).tree) (behind at count) read)
  part-at ts at count s None found e =
      let high : IsTooHigh Is ts count = record { tree = found.tree; part = found.part; high = kept-none found.tree (e ∙ found.made) } in
      (omega arith, subst (IsTooHigh Is ts) (behind at count) high)

  pub count-within : (text : Bytes) (tokens : List Token) (s : S) (n count : ℕ)
      → reading_of reader anything (map (lexeme_of text) tokens) ≡ record { state = s; reached = n; best = Some count } → count ≤ length tokens
  count-within text tokens s n count e =
      let longest = (longest-there (map (lexeme_of text) tokens) s n count e).within in omega (arith, longest, length-map tokens (lexeme_of text))
