-- Where the word of a token stands in the text: between its backquotes, where it has these.
use Rattle.std.specs.Prelude.{ℕ, ◌+◌, ◌-◌, ◌≤◌, length}
use Rattle.std.specs.Str.{IsCharBoundary}
use Rattle.scan_tokens.specs.declared.tokens.Token.{Token}
use Rattle.scan_tokens.specs.declared.tokens.TokenKind.{TokenKind}
use Rattle.scan_tokens.specs.declared.tokens.TokenKind.TheVariants as kind
use Rattle.scan_tokens.specs.Words.{Bytes}

abbrev pub word_start : TokenKind → ℕ → ℕ
word_start kind.BackId start = start + 1
word_start _ start = start

abbrev pub word_end : TokenKind → ℕ → ℕ
word_end kind.BackId end = end - 1
word_end _ end = end

-- the word can be cut out of the text
pub record IsCut (text : Bytes) (t : Token) : Type 0 where
  pub starts : IsCharBoundary text (word_start t.kind t.span.start)
  pub ends : IsCharBoundary text (word_end t.kind t.span.end)
  pub within : t.span.end ≤ length text
  pub order : word_start t.kind t.span.start ≤ word_end t.kind t.span.end
