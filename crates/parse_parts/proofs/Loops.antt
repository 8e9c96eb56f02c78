-- The loop of the reader over the tokens.
use Rattle.std.proofs.Common.{◌≡◌, ℕ, ◌+◌, ◌<◌, Bool, true, false, ◌&&◌, if◌then◌else◌, List, ◌∷◌, length, get_or, map, drop, drop-cons, add-one, Option, Some, None, refl, ap, sym, ◌∙◌}
use Rattle.scan_tokens.specs.declared.tokens.Token.{Token}
use Rattle.scan_tokens.specs.Words.{Bytes}
use Rattle.source_grammar.specs.Lexemes.{lexeme_of, word_of, bytes_in}
use Rattle.reading_machines.specs.Machines.{Reading, onward, noted, reading, reading_of}
use Rattle.reading_machines.specs.Parts.{anything}
use Rattle.parse_parts.specs.declared.states.State.{State}
use Rattle.parse_parts.specs.declared.symbols.Symbol.{Symbol}
use Rattle.parse_parts.specs.Reading.{begun, reader}
use Rattle.parse_parts.specs.Steps.{admits, advanced}
use Rattle.parse_parts.specs.Symbols.{symbol_of}

-- what the reader comes to from a state on
abbrev pub onwards : Bytes → List Token → ℕ → Option ℕ → State → Reading State
onwards text tokens n best s = reading reader anything (map (lexeme_of text) tokens) n best s

pub record IsRead (text : Bytes) (tokens : List Token) (index reached : ℕ) (best : Option ℕ) (s : State) : Type 0 where
  pub count : reached ≡ index
  pub rest : onwards text (drop index tokens) reached best s ≡ onwards text tokens 0 None begun

-- what the reader makes of one token
pub record IsSeen (text : Bytes) (tokens : List Token) (index : ℕ) (t : Token) (word : Bytes) (symbol : Symbol) : Type 0 where
  pub stands : drop index tokens ≡ t ∷ drop (index + 1) tokens
  pub word_is : word ≡ word_of t.kind (bytes_in text t.span)
  pub symbol_is : symbol ≡ symbol_of t.kind word

and-true : (b : Bool) → (b && true) ≡ b
and-true true = refl
and-true false = refl

stepping : (text : Bytes) (t : Token) (ts : List Token) (word : Bytes) (symbol : Symbol) (n : ℕ) (best : Option ℕ) (s : State)
    → word ≡ word_of t.kind (bytes_in text t.span) → symbol ≡ symbol_of t.kind word
    → onwards text (t ∷ ts) n best s
    ≡ (let now = noted ((reader).whole s) n best in
    onward (if admits s symbol then Some (advanced s symbol t.span word) else None) (record { state = s; reached = n; best = now }) (onwards text ts (n + 1) now))
unfolding lexeme_of
stepping text t ts word symbol n best s w k =
    ap (λ b. onward (step (word_of t.kind (bytes_in text t.span)) (symbol_of t.kind (word_of t.kind (bytes_in text t.span)))) (record { state = s; reached = n; best = noted b n best }) (onwards text ts (n + 1) (noted b n best))) (and-true ((reader).whole s))
    ∙ ap (λ x. onward (step x (symbol_of t.kind x)) stuck (onwards text ts (n + 1) now)) (sym w)
    ∙ ap (λ x. onward (step word x) stuck (onwards text ts (n + 1) now)) (sym k)
  where
    step : Bytes → Symbol → Option State
    step x y = if admits s y then Some (advanced s y t.span x) else None

    now : Option ℕ
    now = noted ((reader).whole s) n best

    stuck : Reading State
    stuck = record { state = s; reached = n; best = noted ((reader).whole s) n best }

pub stops : (text : Bytes) (tokens : List Token) (index reached : ℕ) (best now : Option ℕ) (s : State) (t : Token) (word : Bytes) (symbol : Symbol)
    → IsRead text tokens index reached best s → IsSeen text tokens index t word symbol → now ≡ noted ((reader).whole s) reached best → admits s symbol ≡ false
    → reading_of reader anything (map (lexeme_of text) tokens) ≡ record { state = s; reached = reached; best = now }
stops text tokens index reached best now s t word symbol read seen noted_is not =
    sym read.rest ∙ ap (λ ts. onwards text ts reached best s) seen.stands
    ∙ stepping text t (drop (index + 1) tokens) word symbol reached best s seen.word_is seen.symbol_is
    ∙ ap (λ n. onward (if admits s symbol then Some (advanced s symbol t.span word) else None) (record { state = s; reached = reached; best = n }) (onwards text (drop (index + 1) tokens) (reached + 1) n)) (sym noted_is)
    ∙ ap (λ b. onward (if b then Some (advanced s symbol t.span word) else None) (record { state = s; reached = reached; best = now }) (onwards text (drop (index + 1) tokens) (reached + 1) now)) not

pub goes_on : (text : Bytes) (tokens : List Token) (index reached : ℕ) (best now : Option ℕ) (s next : State) (t : Token) (word : Bytes) (symbol : Symbol)
    → IsRead text tokens index reached best s → IsSeen text tokens index t word symbol → now ≡ noted ((reader).whole s) reached best → admits s symbol ≡ true
    → next ≡ advanced s symbol t.span word → IsRead text tokens (index + 1) (reached + 1) now next
goes_on text tokens index reached best now s next t word symbol read seen noted_is may next_is =
    record {
      count = ap (λ n. n + 1) read.count;
      rest = ap (onwards text (drop (index + 1) tokens) (reached + 1) now) next_is
          ∙ sym (sym read.rest ∙ ap (λ ts. onwards text ts reached best s) seen.stands
          ∙ stepping text t (drop (index + 1) tokens) word symbol reached best s seen.word_is seen.symbol_is
          ∙ ap (λ n. onward (if admits s symbol then Some (advanced s symbol t.span word) else None) (record { state = s; reached = reached; best = n }) (onwards text (drop (index + 1) tokens) (reached + 1) n)) (sym noted_is)
          ∙ ap (λ b. onward (if b then Some (advanced s symbol t.span word) else None) (record { state = s; reached = reached; best = now }) (onwards text (drop (index + 1) tokens) (reached + 1) now)) may);
    }

pub noted-now : (b whole : Bool) (n : ℕ) (best now : Option ℕ) → b ≡ whole → now ≡ noted b n best → now ≡ noted whole n best
noted-now b whole n best now e k = k ∙ ap (λ x. noted x n best) e

pub seen : (text : Bytes) (tokens : List Token) (index : ℕ) (d : Token) (word : Bytes) (symbol : Symbol) → index < length tokens
    → word ≡ word_of (get_or tokens index d).kind (bytes_in text (get_or tokens index d).span) → symbol ≡ symbol_of (get_or tokens index d).kind word
    → IsSeen text tokens index (get_or tokens index d) word symbol
seen text tokens index d word symbol below w k =
    record { stands = drop-cons tokens index d below ∙ ap (λ n. get_or tokens index d ∷ drop n tokens) (sym (add-one index)); word_is = w; symbol_is = k }
