-- Pieces of a list around which no expression is: items, and the bodies of templates and of `def`s.
use Rattle.std.specs.Prelude.{Bool, ◌||◌, List, map, None}
use Rattle.std.specs.Option.{option_map}
use Rattle.pc_terms.specs.declared.problems.Span.{Span}
use Rattle.scan_tokens.specs.declared.tokens.Newline.{Newline}
use Rattle.scan_tokens.specs.Words.{Bytes}
use Rattle.source_grammar.specs.Brackets.{has_newline}
use Rattle.expr_tails.specs.declared.items.Built.{Built}
use Rattle.expr_tails.specs.declared.symbols.Symbol.{Symbol}
use Rattle.expr_tails.specs.declared.symbols.Symbol.TheVariants as symbol
use Rattle.expr_steps.specs.Reading.{Item}
use Rattle.parse_exprs.specs.Items as items
use Rattle.parse_exprs.specs.Items.{IsItemOf, item_in, is_semicolon, braces_shape}
use Rattle.parse_exprs.specs.Lists.{Elements}
use Rattle.template_steps.specs.declared.pieces.Body.{Body}
use Rattle.template_steps.specs.declared.pieces.Contents.{Contents}
use Rattle.template_steps.specs.declared.pieces.Contents.TheVariants as contents
use Rattle.template_steps.specs.declared.pieces.Piece.{Piece}
use Rattle.template_steps.specs.declared.pieces.Piece.TheVariants as piece

-- an item of an expression, or a body
pub data Part : Type 0 where
  OfItem : Item → Part
  OfBody : Body → Part

-- ---- parts of a text

abbrev pub part_in : Bytes → Piece → Part
part_in text (piece.Item item) = OfItem (item_in text item)
part_in text (piece.Body body) = OfBody body

abbrev pub parts_in : Bytes → List Piece → List Part
parts_in text pieces = map (part_in text) pieces

-- its words can be cut out of the text
abbrev pub IsPieceOf : Bytes → Piece → Type 0
IsPieceOf text (piece.Item item) = IsItemOf text item
IsPieceOf text (piece.Body body) = Unit {0}

abbrev pub span_of : Piece → Span
span_of (piece.Item item) = items.span_of item
span_of (piece.Body body) = body.span

-- ---- what a part is

-- a body is as its opening brace
abbrev pub symbol_at : Part → Symbol
symbol_at (OfItem item) = items.symbol_at item
symbol_at (OfBody body) = symbol.OpenCurly

abbrev pub span_at : Part → Span
span_at (OfItem item) = items.span_at item
span_at (OfBody body) = body.span

abbrev pub newline_at : Part → Newline
newline_at (OfItem item) = items.newline_at item
newline_at (OfBody body) = body.before

-- statements are separated before it, or by it
abbrev pub separates : Part → Bool
separates part = has_newline (newline_at part) || is_semicolon (symbol_at part)

-- ---- parts without the trees in them

abbrev pub block_shape : Built → Built
block_shape block = record block { tall = None }

abbrev pub contents_shape : Contents → Contents
contents_shape (contents.Template statements) = contents.Template None
contents_shape (contents.Procedure block) = contents.Procedure (option_map block_shape block)

abbrev pub body_shape : Body → Body
body_shape body = record body {
  contents = contents_shape body.contents;
  plain = option_map braces_shape body.plain;
}

-- How far a statement goes does not depend on the trees.
abbrev pub shape_of : Part → Part
shape_of (OfItem item) = OfItem (items.shape_of item)
shape_of (OfBody body) = OfBody (body_shape body)

abbrev pub of_parts : Elements Part
of_parts = record { symbol = symbol_at; span = span_at; separates = separates; shape = shape_of }
