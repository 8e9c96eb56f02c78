-- What the newline between two tokens is, by the bytes between them. A line of white space alone has LF before it and after it.
use Rattle.std.specs.Prelude.{◌≡◌, ◌∷◌, ◌++◌}
use Rattle.pc_terms.specs.Bytes.{line_feed}
use Rattle.scan_tokens.specs.declared.tokens.Newline.{Newline}
use Rattle.scan_tokens.specs.declared.tokens.Newline.TheVariants.{No, One, Blank}
use Rattle.scan_tokens.specs.Characters.{is_space}
use Rattle.scan_tokens.specs.Division.{Each}
use Rattle.scan_tokens.specs.Words.{Bytes}

pub record HasNewline (gap : Bytes) : Type 0 where
  pub front : Bytes
  pub back : Bytes
  pub text : gap ≡ front ++ line_feed ∷ back

pub record HasBlankLine (gap : Bytes) : Type 0 where
  pub front : Bytes
  pub line : Bytes
  pub back : Bytes
  pub text : gap ≡ front ++ line_feed ∷ (line ++ line_feed ∷ back)
  pub spaces : Each is_space line

abbrev pub IsNewlineOf : Bytes → Newline → Type 0
IsNewlineOf gap No = HasNewline gap → ⊥
IsNewlineOf gap One = HasNewline gap × (HasBlankLine gap → ⊥)
IsNewlineOf gap Blank = HasBlankLine gap
