-- The loop of the reader over the tokens.
use Rattle.std.proofs.Common.{◌≡◌, ℕ, ◌+◌, ◌<◌, Bool, true, false, ◌&&◌, if◌then◌else◌, List, ◌∷◌, length, get_or, map, drop, drop-cons, add-one, Option, Some, None, refl, ap, sym, ◌∙◌}
use Rattle.scan_tokens.specs.declared.tokens.Token.{Token}
use Rattle.scan_tokens.specs.Words.{Bytes}
use Rattle.source_grammar.specs.Lexemes.{Lexeme, lexeme_of, word_of, bytes_in}
use Rattle.reading_machines.specs.Machines.{Reading, onward, noted, reading, reading_of}
use Rattle.reading_machines.specs.Parts.{anything}
use Rattle.parse_patterns.specs.declared.states.State.{State}
use Rattle.parse_patterns.specs.Names.{lexeme_with}
use Rattle.parse_patterns.specs.Reading.{begun, reader}
use Rattle.parse_patterns.specs.Steps.{admits, advanced}

-- what the reader comes to from a state on
abbrev pub onwards : Bytes → List Token → ℕ → Option ℕ → State → Reading State
onwards text tokens n best s = reading reader anything (map (lexeme_of text) tokens) n best s

pub record IsRead (text : Bytes) (tokens : List Token) (index reached : ℕ) (best : Option ℕ) (s : State) : Type 0 where
  pub count : reached ≡ index
  pub rest : onwards text (drop index tokens) reached best s ≡ onwards text tokens 0 None begun

-- what the reader makes of one token
pub record IsSeen (text : Bytes) (tokens : List Token) (index : ℕ) (t : Token) (word : Bytes) : Type 0 where
  pub stands : drop index tokens ≡ t ∷ drop (index + 1) tokens
  pub word_is : word ≡ word_of t.kind (bytes_in text t.span)

and-true : (b : Bool) → (b && true) ≡ b
and-true true = refl
and-true false = refl

abbrev step_of : State → Lexeme → Option State
step_of s x = if admits s x then Some (advanced s x) else None

stepping : (text : Bytes) (t : Token) (ts : List Token) (word : Bytes) (n : ℕ) (best : Option ℕ) (s : State) → word ≡ word_of t.kind (bytes_in text t.span)
    → onwards text (t ∷ ts) n best s
    ≡ (let now = noted ((reader).whole s) n best in
    onward (step_of s (lexeme_with t word)) (record { state = s; reached = n; best = now }) (onwards text ts (n + 1) now))
unfolding lexeme_of
stepping text t ts word n best s w =
    ap (λ b. onward (step_of s (lexeme_with t (word_of t.kind (bytes_in text t.span)))) (record { state = s; reached = n; best = noted b n best }) (onwards text ts (n + 1) (noted b n best))) (and-true ((reader).whole s))
    ∙ ap (λ x. onward (step_of s (lexeme_with t x)) (record { state = s; reached = n; best = noted ((reader).whole s) n best }) (onwards text ts (n + 1) (noted ((reader).whole s) n best))) (sym w)

tested : (text : Bytes) (rest : List Token) (n : ℕ) (best now : Option ℕ) (s : State) (x : Lexeme) (b : Bool) → now ≡ noted ((reader).whole s) n best → admits s x ≡ b
    → onward (step_of s x) (record { state = s; reached = n; best = noted ((reader).whole s) n best }) (onwards text rest (n + 1) (noted ((reader).whole s) n best))
    ≡ onward (if b then Some (advanced s x) else None) (record { state = s; reached = n; best = now }) (onwards text rest (n + 1) now)
tested text rest n best now s x b noted_is is =
    ap (λ m. onward (step_of s x) (record { state = s; reached = n; best = m }) (onwards text rest (n + 1) m)) (sym noted_is)
    ∙ ap (λ c. onward (if c then Some (advanced s x) else None) (record { state = s; reached = n; best = now }) (onwards text rest (n + 1) now)) is

pub stops : (text : Bytes) (tokens : List Token) (index reached : ℕ) (best now : Option ℕ) (s : State) (t : Token) (word : Bytes)
    → IsRead text tokens index reached best s → IsSeen text tokens index t word → now ≡ noted ((reader).whole s) reached best → admits s (lexeme_with t word) ≡ false
    → reading_of reader anything (map (lexeme_of text) tokens) ≡ record { state = s; reached = reached; best = now }
stops text tokens index reached best now s t word read seen noted_is not =
    sym read.rest ∙ ap (λ ts. onwards text ts reached best s) seen.stands
    ∙ stepping text t (drop (index + 1) tokens) word reached best s seen.word_is
    ∙ tested text (drop (index + 1) tokens) reached best now s (lexeme_with t word) false noted_is not

pub goes_on : (text : Bytes) (tokens : List Token) (index reached : ℕ) (best now : Option ℕ) (s next : State) (t : Token) (word : Bytes)
    → IsRead text tokens index reached best s → IsSeen text tokens index t word → now ≡ noted ((reader).whole s) reached best → admits s (lexeme_with t word) ≡ true
    → next ≡ advanced s (lexeme_with t word) → IsRead text tokens (index + 1) (reached + 1) now next
goes_on text tokens index reached best now s next t word read seen noted_is may next_is =
    record {
      count = ap (λ n. n + 1) read.count;
      rest = ap (onwards text (drop (index + 1) tokens) (reached + 1) now) next_is
          ∙ sym (sym read.rest ∙ ap (λ ts. onwards text ts reached best s) seen.stands
          ∙ stepping text t (drop (index + 1) tokens) word reached best s seen.word_is
          ∙ tested text (drop (index + 1) tokens) reached best now s (lexeme_with t word) true noted_is may);
    }

pub noted-now : (b whole : Bool) (n : ℕ) (best now : Option ℕ) → b ≡ whole → now ≡ noted b n best → now ≡ noted whole n best
noted-now b whole n best now e k = k ∙ ap (λ x. noted x n best) e

pub seen : (text : Bytes) (tokens : List Token) (index : ℕ) (d : Token) (word : Bytes) → index < length tokens
    → word ≡ word_of (get_or tokens index d).kind (bytes_in text (get_or tokens index d).span) → IsSeen text tokens index (get_or tokens index d) word
seen text tokens index d word below w =
    record { stands = drop-cons tokens index d below ∙ ap (λ n. get_or tokens index d ∷ drop n tokens) (sym (add-one index)); word_is = w }
