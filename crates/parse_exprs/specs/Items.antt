-- Items as what stands in a list of statements.
use Rattle.std.specs.Prelude.{ℕ, ◌+◌, ◌-◌, Bool, true, false, not, ◌&&◌, ◌||◌, List, [], ◌∷◌, map, Option, Some, None}
use Rattle.std.specs.Option.{option_map}
use Rattle.pc_terms.specs.declared.problems.Span.{Span}
use Rattle.scan_tokens.specs.declared.tokens.Newline.{Newline}
use Rattle.scan_tokens.specs.Words.{Bytes}
use Rattle.source_grammar.specs.Brackets.{has_newline}
use Rattle.source_grammar.specs.Lexemes.{lexeme_of}
use Rattle.parse_parts.specs.Words.{IsCut}
use Rattle.expr_tails.specs.declared.items.Braces.{Braces}
use Rattle.expr_tails.specs.declared.items.Inside.{Inside}
use Rattle.expr_tails.specs.declared.items.Inside.TheVariants as inside
use Rattle.expr_tails.specs.declared.symbols.Symbol.{Symbol}
use Rattle.expr_tails.specs.declared.symbols.Symbol.TheVariants as symbol
use Rattle.expr_tails.specs.declared.symbols.Word.TheVariants as word
use Rattle.expr_tails.specs.Symbols.{symbol_of}
use Rattle.expr_steps.specs.Reading.{Item, OneToken, Pair}
use Rattle.parse_exprs.specs.declared.items.Item.{Item as Written}
use Rattle.parse_exprs.specs.declared.items.Item.TheVariants as written

-- ---- items of a text

abbrev pub item_in : Bytes → Written → Item
item_in text (written.Token token) = OneToken (lexeme_of text token)
item_in text (written.Braces b) = Pair b

abbrev pub items_in : Bytes → List Written → List Item
items_in text written = map (item_in text) written

-- its words can be cut out of the text
abbrev pub IsItemOf : Bytes → Written → Type 0
IsItemOf text (written.Token token) = IsCut text token
IsItemOf text (written.Braces b) = Unit {0}

abbrev pub span_of : Written → Span
span_of (written.Token token) = token.span
span_of (written.Braces b) = b.span

abbrev pub newline_of : Written → Newline
newline_of (written.Token token) = token.before
newline_of (written.Braces b) = b.before

-- ---- what an item is

-- a pair of braces is as its opening one
abbrev pub symbol_at : Item → Symbol
symbol_at (OneToken x) = symbol_of x.kind x.word
symbol_at (Pair b) = symbol.OpenCurly

abbrev pub span_at : Item → Span
span_at (OneToken x) = x.place.span
span_at (Pair b) = b.span

abbrev pub newline_at : Item → Newline
newline_at (OneToken x) = x.place.before
newline_at (Pair b) = b.before

abbrev pub is_semicolon : Symbol → Bool
is_semicolon symbol.Semicolon = true
is_semicolon _ = false

-- statements are separated before it, or by it
abbrev pub separates : Item → Bool
separates item = has_newline (newline_at item) || is_semicolon (symbol_at item)

abbrev pub is_case_word : Symbol → Bool
is_case_word (symbol.Word word.Case) = true
is_case_word _ = false

abbrev pub is_template_word : Symbol → Bool
is_template_word (symbol.Word word.Class) = true
is_template_word (symbol.Word word.Object) = true
is_template_word _ = false

abbrev pub begins_template : List Item → Bool
begins_template [] = false
begins_template (i ∷ is) = is_template_word (symbol_at i)

-- `case`, where no class or object follows
abbrev pub begins_case : List Item → Bool
begins_case [] = false
begins_case (i ∷ is) = is_case_word (symbol_at i) && not (begins_template is)

abbrev pub next_symbol : List Item → Option Symbol
next_symbol [] = None
next_symbol (i ∷ is) = Some (symbol_at i)

-- how many brackets are open behind an item, of those that are no braces
abbrev pub depth_behind : ℕ → Symbol → ℕ
depth_behind depth symbol.OpenRound = depth + 1
depth_behind depth symbol.OpenSquare = depth + 1
depth_behind depth symbol.CloseRound = depth - 1
depth_behind depth symbol.CloseSquare = depth - 1
depth_behind depth _ = depth

-- ---- items without the trees in them

abbrev pub inside_shape : Inside → Inside
inside_shape (inside.Block built) = inside.Block (record { tall = None; free = built.free })
inside_shape (inside.Cases cases) = inside.Cases (record { kids = None; free = cases.free })
inside_shape (inside.Generators gens) = inside.Generators (record { generators = []; free = gens.free })
inside_shape inside.Nothing = inside.Nothing

abbrev pub braces_shape : Braces → Braces
braces_shape b = record {
  span = b.span;
  before = b.before;
  inside = inside_shape b.inside;
  selectors = option_map (λ selectors. []) b.selectors;
}

-- How far a statement goes does not depend on the trees.
abbrev pub shape_of : Item → Item
shape_of (OneToken x) = OneToken x
shape_of (Pair b) = Pair (braces_shape b)
