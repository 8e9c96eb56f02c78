-- What is written as a number (SLS 1.3.1).
use Rattle.std.specs.Prelude.{◌≡◌, ℕ, false, ◌==◌, ◌⊎◌, [], ◌∷◌, ◌++◌}
use Rattle.std.specs.Char.{is_ascii_digit, is_ascii_hexdigit}
use Rattle.pc_terms.specs.Bytes.{digit_zero, capital_l, capital_x, letter_l, letter_x}
use Rattle.scan_tokens.specs.declared.tokens.TokenKind.{TokenKind}
use Rattle.scan_tokens.specs.declared.tokens.TokenKind.TheVariants as kind
use Rattle.scan_tokens.specs.Division.{Each}
use Rattle.scan_tokens.specs.Words.{Bytes}

-- digits, the first of them not 0
pub record IsDecimal (n : Bytes) : Type 0 where
  pub first : ℕ
  pub others : Bytes
  pub text : n ≡ first ∷ others
  pub not_zero : (first == digit_zero) ≡ false
  pub digits : Each is_ascii_digit (first ∷ others)

-- 0x or 0X, and hexadecimal digits
pub record IsHexadecimal (n : Bytes) : Type 0 where
  pub mark : ℕ
  pub first : ℕ
  pub others : Bytes
  pub text : n ≡ digit_zero ∷ mark ∷ first ∷ others
  pub marks : (mark ≡ letter_x) ⊎ (mark ≡ capital_x)
  pub digits : Each is_ascii_hexdigit (first ∷ others)

abbrev pub IsWhole : Bytes → Type 0
IsWhole n = (n ≡ digit_zero ∷ []) ⊎ (IsDecimal n ⊎ IsHexadecimal n)

-- a number and L or l
pub record IsLong (n : Bytes) : Type 0 where
  pub whole : Bytes
  pub suffix : ℕ
  pub text : n ≡ whole ++ suffix ∷ []
  pub suffixes : (suffix ≡ capital_l) ⊎ (suffix ≡ letter_l)
  pub proper : IsWhole whole

-- it is written as a token of this kind
abbrev pub IsNumberOf : TokenKind → Bytes → Type 0
IsNumberOf kind.Int n = IsWhole n
IsNumberOf kind.Long n = IsLong n
IsNumberOf kind.Error n = (IsWhole n → ⊥) × (IsLong n → ⊥)
IsNumberOf _ n = ⊥
