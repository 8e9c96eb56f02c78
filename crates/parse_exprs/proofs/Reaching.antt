-- What a reading of levels says of its tokens.
use Rattle.std.proofs.Common.{◌≡◌, ℕ, ◌+◌, ◌<◌, ◌≤◌, Bool, true, false, ◌&&◌, List, [], ◌∷◌, length, get_or, map, drop, drop-cons, add-one, Option, Some, refl, ap, sym, subst, ◌∙◌, arith}
use Rattle.std.proofs.lemmas.List.{drop-map, length-map}
use Rattle.scan_tokens.specs.declared.tokens.Token.{Token}
use Rattle.scan_tokens.specs.declared.tokens.Tokens.{Tokens}
use Rattle.scan_tokens.specs.Words.{Bytes}
use Rattle.source_grammar.specs.Lexemes.{Lexeme, lexeme_of, lexemes}
use Rattle.parse_parts.specs.Reading.{is_nil}
use Rattle.parse_exprs.specs.declared.levels.Levels.{Levels as WrittenLevels}
use Rattle.parse_exprs.specs.Levels.{is_expression, is_whole, level_in, levels_in}
use Rattle.reading_machines.specs.Machines.{Machine, noted, reading_of}
use Rattle.reading_machines.specs.Parts.{anything}
use Rattle.reading_machines.proofs.Longest.{BestBelow, started-far}

pub next-token : {A B : Type 0} (f : A → B) (xs : List A) (at : ℕ) (d : A) → at < length xs
    → map f (drop at xs) ≡ f (get_or xs at d) ∷ map f (drop (at + 1) xs)
next-token f xs at d below =
    ap (map f) (drop-cons xs at d below ∙ ap (λ n. get_or xs at d ∷ drop n xs) (sym (add-one at)))

and-true : (b : Bool) → b ≡ (b && true)
and-true true = refl
and-true false = refl

nil-map : {A B : Type 0} (f : A → B) (xs : List A) → is_nil xs ≡ is_nil (map f xs)
nil-map f [] = refl
nil-map f (x ∷ xs) = refl

-- levels are an expression whatever their text is
pub whole-in : (text : Bytes) (levels : WrittenLevels) (best now : Option ℕ) (n : ℕ) (passes : Bool)
    → passes ≡ (is_nil levels.around && is_expression levels.current.check) → now ≡ noted passes n best
    → now ≡ noted (is_whole (levels_in text levels) && true) n best
whole-in text levels best now n passes e is =
    is ∙ ap (λ b. noted b n best)
    (e ∙ ap (λ b. b && is_expression levels.current.check) (nil-map (level_in text) levels.around) ∙ and-true (is_whole (levels_in text levels)))

module _ {S : Type 0} (reader : Machine S Lexeme) (text : Bytes) (tokens : List Token) where
  pub reached-few : (n : ℕ) → n ≡ (reading_of reader anything (map (lexeme_of text) tokens)).reached → n ≤ length tokens
  reached-few n e =
      let far : (reading_of reader anything (map (lexeme_of text) tokens)).reached ≤ length (map (lexeme_of text) tokens) =
      (started-far reader anything (map (lexeme_of text) tokens)).within in
      omega (arith, far, e, length-map tokens (lexeme_of text))

  pub count-few : (count : ℕ) → (reading_of reader anything (map (lexeme_of text) tokens)).best ≡ Some count → count ≤ length tokens
  count-few count e =
      let ts = map (lexeme_of text) tokens in
      let far = started-far reader anything ts in
      let below = subst (BestBelow reader anything ts ((reading_of reader anything ts).reached + 1)) e far.best in
      let within : (reading_of reader anything ts).reached ≤ length ts = far.within in
      omega (arith, below.0, within, length-map tokens (lexeme_of text))

-- the tokens of a scanned text from one of them on
pub from-here : (found : Tokens) (text : Bytes) (at : ℕ) (rest : List Token) → text ≡ found.text → rest ≡ drop at found.tokens
    → map (lexeme_of text) rest ≡ drop at (lexemes found)
unfolding lexemes
from-here found text at rest same here =
    ap (λ t. map (lexeme_of t) rest) same ∙ ap (map (lexeme_of found.text)) here ∙ sym (drop-map (lexeme_of found.text) at found.tokens)
