-- Braces in which expressions are read, as a machine on lexemes.
use Rattle.std.specs.Prelude.{ℕ, Bool, ◌&&◌, if◌then◌else◌, List, [], ◌∷◌, ◌++◌, map, Option, Some, None, codes}
use Rattle.std.specs.List.{All}
use Rattle.std.specs.Str.{bytes_eq}
use Rattle.scan_tokens.specs.declared.tokens.Newline.{Newline}
use Rattle.scan_tokens.specs.Words.{Bytes}
use Rattle.source_grammar.specs.Brackets.{is_delimiter_kind}
use Rattle.source_grammar.specs.Lexemes.{Lexeme}
use Rattle.expr_tails.specs.declared.items.Braces.{Braces}
use Rattle.expr_steps.specs.Reading.{Item, OneToken, Pair}
use Rattle.parse_exprs.specs.Items.{IsItemOf, items_in}
use Rattle.parse_exprs.specs.Levels.{braces_over, opening_of}
use Rattle.parse_exprs.specs.declared.contents.Opening.{Opening}
use Rattle.parse_exprs.specs.declared.contents.Opening.TheVariants as opening
use Rattle.tree_parser.specs.declared.plain.Plain.{Plain as WrittenPlain}
use Rattle.tree_parser.specs.declared.plain.Plain.TheVariants as written
use Rattle.tree_parser.specs.declared.plain.PlainLevel.{PlainLevel as WrittenLevel}
use Rattle.tree_parser.specs.declared.plain.PlainLevels.{PlainLevels as WrittenLevels}

-- an open brace, and the items in it so far
pub record PlainLevel : Type 0 where
  pub start : ℕ
  pub before : Newline
  pub opening : Opening
  pub items : List Item

-- the innermost open brace, and those around it, the innermost first
pub record PlainLevels : Type 0 where
  pub current : PlainLevel
  pub around : List PlainLevel

-- what a token makes of open braces: they are open still, or the outermost pair is closed
pub data Plain : Type 0 where
  Open : PlainLevels → Plain
  Closed : Braces → Plain

-- ---- levels of a text

abbrev pub level_in : Bytes → WrittenLevel → PlainLevel
level_in text level = record {
  start = level.start;
  before = level.before;
  opening = level.opening;
  items = items_in text level.items;
}

abbrev pub levels_in : Bytes → WrittenLevels → PlainLevels
levels_in text levels = record { current = level_in text levels.current; around = map (level_in text) levels.around }

abbrev pub plain_in : Bytes → WrittenPlain → Plain
plain_in text (written.Open levels) = Open (levels_in text levels)
plain_in text (written.Closed braces) = Closed braces

abbrev pub IsLevelOf : Bytes → WrittenLevel → Type 0
IsLevelOf text level = All (IsItemOf text) level.items

pub record AreLevelsOf (text : Bytes) (levels : WrittenLevels) : Type 0 where
  pub current : IsLevelOf text levels.current
  pub around : All (IsLevelOf text) levels.around

abbrev pub IsPlainOf : Bytes → WrittenPlain → Type 0
IsPlainOf text (written.Open levels) = AreLevelsOf text levels
IsPlainOf text (written.Closed braces) = Unit {0}

-- ---- one token

abbrev pub is_delimiter : Bytes → Lexeme → Bool
is_delimiter bracket x = is_delimiter_kind x.kind && bytes_eq x.word bracket

abbrev pub level_at : Lexeme → Opening → PlainLevel
level_at x behind = record { start = x.place.span.start; before = x.place.before; opening = behind; items = [] }

-- behind an opening brace, and what this stands behind
abbrev pub plain_begun : Lexeme → Opening → PlainLevels
plain_begun x behind = record { current = level_at x behind; around = [] }

abbrev pub with_item : PlainLevel → Item → PlainLevel
with_item level item = record level { items = level.items ++ item ∷ [] }

abbrev pub curly_opened : PlainLevels → Lexeme → PlainLevels
curly_opened ls x = record {
  current = level_at x (opening_of opening.Other ls.current.items);
  around = ls.current ∷ ls.around;
}

abbrev pub braces_of : PlainLevel → ℕ → Braces
braces_of level end = braces_over level.opening level.before (record { start = level.start; end = end }) level.items

abbrev pub closed_in : Braces → List PlainLevel → Plain
closed_in b [] = Closed b
closed_in b (outer ∷ around) = Open (record { current = with_item outer (Pair b); around = around })

abbrev pub curly_closed : PlainLevels → ℕ → Plain
curly_closed ls end = closed_in (braces_of ls.current end) ls.around

abbrev pub plain_step : PlainLevels → Lexeme → Plain
plain_step ls x =
    if is_delimiter (codes "{") x then Open (curly_opened ls x)
    else (if is_delimiter (codes "}") x then curly_closed ls x.place.span.end
    else Open (record ls { current = with_item ls.current (OneToken x) }))

-- ---- a whole pair

abbrev pub closed_or : Plain → (PlainLevels → Option Braces) → Option Braces
closed_or (Open ls) further = further ls
closed_or (Closed b) further = Some b

abbrev pub braces_from : PlainLevels → List Lexeme → Option Braces
braces_from ls [] = None
braces_from ls (x ∷ xs) = closed_or (plain_step ls x) (λ next. braces_from next xs)

-- the braces that these begin with
abbrev pub plain_braces : Opening → List Lexeme → Option Braces
plain_braces behind [] = None
plain_braces behind (x ∷ xs) = braces_from (plain_begun x behind) xs
