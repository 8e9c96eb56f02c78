-- The open lists of a unit, as a machine on lexemes.
use Rattle.std.specs.Prelude.{ℕ, ◌+◌, ◌-◌, nat_le, Bool, true, false, not, ◌&&◌, if◌then◌else◌, List, [], ◌∷◌, ◌++◌, map, take, drop, Option, Some, None}
use Rattle.std.specs.List.{All}
use Rattle.std.specs.Option.{option_map, ForSome}
use Rattle.pc_terms.specs.declared.problems.Span.{Span}
use Rattle.scan_tokens.specs.declared.tokens.Newline.TheVariants.{No}
use Rattle.scan_tokens.specs.Words.{Bytes}
use Rattle.source_grammar.specs.Lexemes.{Lexeme}
use Rattle.expr_tails.specs.Symbols.{symbol_of}
use Rattle.expr_tails.specs.declared.items.Braces.{Braces}
use Rattle.expr_tails.specs.declared.symbols.Symbol.{Symbol}
use Rattle.expr_tails.specs.declared.symbols.Symbol.TheVariants as symbol
use Rattle.expr_steps.specs.Reading.{OneToken, Pair}
use Rattle.parse_exprs.specs.Levels.{opening_behind}
use Rattle.parse_exprs.specs.declared.contents.Opening.{Opening}
use Rattle.parse_exprs.specs.declared.contents.Opening.TheVariants as opening
use Rattle.template_steps.specs.Pieces.{Part, OfItem, OfBody, IsPieceOf, parts_in, symbol_at}
use Rattle.template_steps.specs.Statements.{is_unit, list_of}
use Rattle.template_steps.specs.declared.pieces.Body.{Body}
use Rattle.template_steps.specs.declared.pieces.Contents.{Contents}
use Rattle.template_steps.specs.declared.pieces.Contents.TheVariants as contents
use Rattle.template_steps.specs.declared.statements.ListKind.{ListKind}
use Rattle.template_steps.specs.declared.statements.ListKind.TheVariants as list
use Rattle.tree_parser.specs.Blocks.{block_of}
use Rattle.tree_parser.specs.Headings.{no_heading, heading_behind, behind_braces, body_at}
use Rattle.tree_parser.specs.Plain as plain
use Rattle.tree_parser.specs.Plain.{PlainLevels, Plain, Open, Closed, plain_begun, plain_step, plain_braces}
use Rattle.tree_parser.specs.declared.headings.Awaited.{Awaited}
use Rattle.tree_parser.specs.declared.headings.BodyKind.{BodyKind}
use Rattle.tree_parser.specs.declared.headings.BodyKind.TheVariants as body
use Rattle.tree_parser.specs.declared.headings.Heading.{Heading}
use Rattle.tree_parser.specs.declared.levels.Level.{Level as WrittenLevel}
use Rattle.tree_parser.specs.declared.levels.Levels.{Levels as WrittenLevels}
use Rattle.tree_parser.specs.declared.levels.Place.{Place}

-- an open list around which no expression is, with what was read of it
pub record Level : Type 0 where
  pub kind : ListKind
  pub place : Place
  pub heading : Heading
  pub parts : List Part

-- the list that is read, those around it, the innermost first, and the open braces of expressions in it
pub record Levels : Type 0 where
  pub current : Level
  pub around : List Level
  pub plain : Option PlainLevels

-- ---- levels of a text

abbrev pub level_in : Bytes → WrittenLevel → Level
level_in text level = record {
  kind = level.kind;
  place = level.place;
  heading = level.heading;
  parts = parts_in text level.pieces;
}

abbrev pub levels_in : Bytes → WrittenLevels → Levels
levels_in text levels = record {
  current = level_in text levels.current;
  around = map (level_in text) levels.around;
  plain = option_map (plain.levels_in text) levels.plain;
}

abbrev pub IsLevelOf : Bytes → WrittenLevel → Type 0
IsLevelOf text level = All (IsPieceOf text) level.pieces

pub record AreLevelsOf (text : Bytes) (levels : WrittenLevels) : Type 0 where
  pub current : IsLevelOf text levels.current
  pub around : All (IsLevelOf text) levels.around
  pub plain : ForSome levels.plain (plain.AreLevelsOf text)

-- ---- the first level

abbrev pub level_at : ListKind → Place → Level
level_at kind place = record { kind = kind; place = place; heading = no_heading; parts = [] }

abbrev pub begun : Levels
begun = record {
  current = level_at list.Unit (record { start = 0; before = No; token = 0; opening = opening.Other; parted = false });
  around = [];
  plain = None;
}

abbrev pub with_part : Level → Part → Heading → Level
with_part level part heading = record level { heading = heading; parts = level.parts ++ part ∷ [] }

-- ---- bodies

abbrev pub opening_of : Opening → List Part → Opening
opening_of behind [] = behind
opening_of behind (p ∷ ps) = opening_of (opening_behind (symbol_at p)) ps

abbrev pub list_in : BodyKind → ListKind
list_in body.Template = list.Template
list_in body.Procedure = list.Procedure

abbrev pub contents_of : ListKind → Span → List Part → Contents
contents_of list.Procedure span parts = contents.Procedure (block_of span parts)
contents_of _ span parts = contents.Template (list_of list.Template parts).kids

-- The same braces as an expression has them, where they may stand in one. The last of their tokens has this number.
abbrev pub plain_reading : List Lexeme → Place → ℕ → ListKind → Option Braces
plain_reading xs place at outer =
    if place.parted && not (is_unit outer) && nat_le place.token at
    then plain_braces place.opening (take (at + 1 - place.token) (drop place.token xs)) else None

abbrev pub span_to : Place → ℕ → Span
span_to place end = record { start = place.start; end = end }

-- what the brace that ends here closes
abbrev pub body_of : List Lexeme → Level → ListKind → ℕ → ℕ → Body
body_of xs level outer end at = record {
  span = span_to level.place end;
  before = level.place.before;
  contents = contents_of level.kind (span_to level.place end) level.parts;
  plain = plain_reading xs level.place at outer;
}

-- ---- one token, by its number

abbrev pub token_read : Level → Symbol → Lexeme → Level
token_read level s x = with_part level (OfItem (OneToken x)) (heading_behind s level.heading level.kind x)

abbrev pub place_of : Awaited → Lexeme → ℕ → List Part → Place
place_of awaited x at parts = record {
  start = x.place.span.start;
  before = x.place.before;
  token = at;
  opening = opening_of opening.Other parts;
  parted = awaited.parted;
}

abbrev pub opened_by : Option Awaited → Level → List Level → Lexeme → ℕ → Levels
opened_by None current around x at =
    record { current = current; around = around; plain = Some (plain_begun x (opening_of opening.Other current.parts)) }
opened_by (Some awaited) current around x at = record {
  current = level_at (list_in awaited.body) (place_of awaited x at current.parts);
  around = current ∷ around;
  plain = None;
}

abbrev pub curly_opened : Level → List Level → Lexeme → ℕ → Levels
curly_opened current around x at = opened_by (body_at current.heading x.place.before) current around x at

abbrev pub curly_closed : List Lexeme → Level → List Level → Lexeme → ℕ → Levels
curly_closed xs current [] x at =
    record { current = token_read current symbol.CloseCurly x; around = []; plain = None }
curly_closed xs current (outer ∷ around) x at = record {
  current = with_part outer (OfBody (body_of xs current outer.kind x.place.span.end at)) (behind_braces outer.heading);
  around = around;
  plain = None;
}

abbrev pub is_open_curly : Symbol → Bool
is_open_curly symbol.OpenCurly = true
is_open_curly _ = false

abbrev pub is_close_curly : Symbol → Bool
is_close_curly symbol.CloseCurly = true
is_close_curly _ = false

abbrev pub in_list : Symbol → List Lexeme → Level → List Level → Lexeme → ℕ → Levels
in_list s xs current around x at =
    if is_open_curly s then curly_opened current around x at
    else (if is_close_curly s then curly_closed xs current around x at
    else record { current = token_read current s x; around = around; plain = None })

abbrev pub in_plain : Plain → Level → List Level → Levels
in_plain (Open next) current around = record { current = current; around = around; plain = Some next }
in_plain (Closed b) current around = record {
  current = with_part current (OfItem (Pair b)) (behind_braces current.heading);
  around = around;
  plain = None;
}

abbrev pub step_by : Option PlainLevels → List Lexeme → Level → List Level → Lexeme → ℕ → Levels
step_by None xs current around x at = in_list (symbol_of x.kind x.word) xs current around x at
step_by (Some nested) xs current around x at = in_plain (plain_step nested x) current around

-- behind one token more of these, which has this number
abbrev pub step : List Lexeme → Levels → Lexeme → ℕ → Levels
step xs ls x at = step_by ls.plain xs ls.current ls.around x at

abbrev pub steps : List Lexeme → Levels → ℕ → List Lexeme → Levels
steps xs ls at [] = ls
steps xs ls at (y ∷ ys) = steps xs (step xs ls y at) (at + 1) ys

-- the parts of the statements of a unit, of which the first begins with the token of this number
abbrev pub parts_behind : List Lexeme → ℕ → List Part
parts_behind xs at = (steps xs begun at (drop at xs)).current.parts
