-- The levels of open braces over which an expression is read, as a machine on lexemes.
use Rattle.std.specs.Prelude.{ℕ, Bool, false, ◌&&◌, if◌then◌else◌, List, [], ◌∷◌, ◌++◌, map, Option, Some, None}
use Rattle.std.specs.List.{All}
use Rattle.pc_terms.specs.declared.problems.Span.{Span}
use Rattle.scan_tokens.specs.declared.tokens.Newline.{Newline}
use Rattle.scan_tokens.specs.declared.tokens.Newline.TheVariants.{No}
use Rattle.scan_tokens.specs.Words.{Bytes}
use Rattle.source_grammar.specs.Lexemes.{Lexeme}
use Rattle.parse_parts.specs.Reading.{is_nil}
use Rattle.reading_machines.specs.Machines.{Machine, run}
use Rattle.expr_tails.specs.declared.items.Braces.{Braces}
use Rattle.expr_tails.specs.declared.states.Limit.TheVariants as limit
use Rattle.expr_tails.specs.declared.states.State.{State}
use Rattle.expr_tails.specs.declared.symbols.Symbol.{Symbol}
use Rattle.expr_tails.specs.declared.symbols.Symbol.TheVariants as symbol
use Rattle.expr_tails.specs.declared.symbols.Word.TheVariants as word
use Rattle.expr_tails.specs.Symbols.{symbol_of}
use Rattle.expr_steps.specs.Reading.{Item, OneToken, Pair, stepped as expr_stepped, begun as expr_begun, is_read, built_at}
use Rattle.parse_parts.specs.declared.built.Tall.{Tall}
use Rattle.parse_exprs.specs.declared.checks.Check.{Check}
use Rattle.parse_exprs.specs.declared.checks.Check.TheVariants as check
use Rattle.parse_exprs.specs.declared.checks.Checks.{Checks}
use Rattle.parse_exprs.specs.declared.contents.Opening.{Opening}
use Rattle.parse_exprs.specs.declared.contents.Opening.TheVariants as opening
use Rattle.parse_exprs.specs.declared.levels.Level.{Level as WrittenLevel}
use Rattle.parse_exprs.specs.declared.levels.Levels.{Levels as WrittenLevels}
use Rattle.parse_exprs.specs.Checks.{check_token, check_opening, check_braces, may_close}
use Rattle.parse_exprs.specs.Contents.{inside_of, selectors_of}
use Rattle.parse_exprs.specs.Items.{IsItemOf, items_in, symbol_at, braces_shape}

-- an open brace, the items in it so far, and what can stand next
pub record Level : Type 0 where
  pub start : ℕ
  pub before : Newline
  pub opening : Opening
  pub items : List Item
  pub check : Check

pub record Levels : Type 0 where
  pub current : Level
  pub around : List Level

-- ---- levels of a text

abbrev pub level_in : Bytes → WrittenLevel → Level
level_in text level = record {
  start = level.start;
  before = level.before;
  opening = level.opening;
  items = items_in text level.items;
  check = level.check;
}

abbrev pub levels_in : Bytes → WrittenLevels → Levels
levels_in text levels = record { current = level_in text levels.current; around = map (level_in text) levels.around }

abbrev pub IsLevelOf : Bytes → WrittenLevel → Type 0
IsLevelOf text level = All (IsItemOf text) level.items

pub record AreLevelsOf (text : Bytes) (levels : WrittenLevels) : Type 0 where
  pub current : IsLevelOf text levels.current
  pub around : All (IsLevelOf text) levels.around

-- ---- braces

abbrev pub braces_over : Opening → Newline → Span → List Item → Braces
braces_over opening before span items = record {
  span = span;
  before = before;
  inside = inside_of opening span items;
  selectors = selectors_of opening items;
}

abbrev pub braces_of : Level → ℕ → Braces
braces_of level end = braces_over level.opening level.before (record { start = level.start; end = end }) level.items

abbrev pub opening_behind : Symbol → Opening
opening_behind (symbol.Word word.For) = opening.For
opening_behind symbol.Dot = opening.Dot
opening_behind _ = opening.Other

abbrev pub opening_of : Opening → List Item → Opening
opening_of before [] = before
opening_of before (i ∷ is) = opening_of (opening_behind (symbol_at i)) is

abbrev pub with_check : Level → Check → Level
with_check level c = record { start = level.start; before = level.before; opening = level.opening; items = level.items; check = c }

abbrev pub with_item : Level → Item → Check → Level
with_item level item c =
    record { start = level.start; before = level.before; opening = level.opening; items = level.items ++ item ∷ []; check = c }

abbrev pub opened_by : Levels → Lexeme → Option Checks → Option Levels
opened_by ls x None = None
opened_by ls x (Some checks) = Some (record {
  current = record {
    start = x.place.span.start;
    before = x.place.before;
    opening = opening_of opening.Other ls.current.items;
    items = [];
    check = checks.inner;
  };
  around = with_check ls.current checks.outer ∷ ls.around;
})

abbrev pub with_braces : Level → Braces → Level
with_braces outer b = with_item outer (Pair b) (check_braces outer.check (braces_shape b))

abbrev pub closed_around : Level → ℕ → List Level → Option Levels
closed_around level end [] = None
closed_around level end (outer ∷ around) = Some (record { current = with_braces outer (braces_of level end); around = around })

abbrev pub token_by : Levels → Lexeme → Option Check → Option Levels
token_by ls x None = None
token_by ls x (Some c) = Some (record { current = with_item ls.current (OneToken x) c; around = ls.around })

-- ---- one token

abbrev pub step_by : Symbol → Levels → Lexeme → Option Levels
step_by symbol.OpenCurly ls x = opened_by ls x (check_opening ls.current.check x.place.before)
step_by symbol.CloseCurly ls x = if may_close ls.current.check then closed_around ls.current x.place.span.end ls.around else None
step_by _ ls x = token_by ls x (check_token ls.current.check x)

-- the levels after a token, if it can stand next
abbrev pub stepped : Levels → Lexeme → Option Levels
stepped ls x = step_by (symbol_of x.kind x.word) ls x

abbrev pub is_expression : Check → Bool
is_expression (check.Expr s) = is_read s
is_expression _ = false

abbrev pub is_whole : Levels → Bool
is_whole ls = is_nil ls.around && is_expression ls.current.check

abbrev pub begun : Levels
begun = record {
  current = record { start = 0; before = No; opening = opening.Other; items = []; check = check.Expr (expr_begun limit.Expr) };
  around = [];
}

abbrev pub reader : Machine Levels Lexeme
reader = record { start = begun; step = stepped; whole = is_whole }

-- ---- the tree

abbrev pub tall_of : Option State → Option Tall
tall_of None = None
tall_of (Some s) = (built_at s).tall

-- of the expression that these items are
abbrev pub tree_of : List Item → Option Tall
tree_of items = tall_of (run expr_stepped items (expr_begun limit.Expr))
