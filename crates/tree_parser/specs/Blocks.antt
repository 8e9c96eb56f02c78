-- The block of a `def` without `=`, around which no expression is.
use Rattle.std.specs.Prelude.{Bool, false, if◌then◌else◌, List, [], ◌∷◌, drop, Option, Some, None}
use Rattle.pc_terms.specs.declared.problems.Span.{Span}
use Rattle.source_grammar.specs.Lexemes.{Lexeme}
use Rattle.expr_tails.specs.declared.items.Built.{Built}
use Rattle.expr_tails.specs.declared.symbols.Symbol.{Symbol}
use Rattle.expr_steps.specs.Reading.{Item, OneToken, Pair}
use Rattle.parse_exprs.specs.Cases.{is_arrow}
use Rattle.parse_exprs.specs.Contents.{head_of, block_over, lambda_over}
use Rattle.parse_exprs.specs.Items.{is_case_word}
use Rattle.parse_exprs.specs.declared.contents.Params.{Params}
use Rattle.template_steps.specs.Pieces.{Part, OfItem, OfBody, symbol_at}
use Rattle.template_steps.specs.Statements.{list_of}
use Rattle.template_steps.specs.declared.statements.ListKind.TheVariants as list

abbrev pub begins_with_case : List Part → Bool
begins_with_case [] = false
begins_with_case (p ∷ ps) = is_case_word (symbol_at p)

abbrev pub token_at : Part → Option Lexeme
token_at (OfItem (OneToken x)) = Some x
token_at (OfItem (Pair b)) = None
token_at (OfBody b) = None

abbrev pub leading_by : Option Lexeme → Symbol → List Item → List Item
leading_by None s items = []
leading_by (Some x) s items = OneToken x ∷ (if is_arrow s then [] else items)

-- the tokens that these begin with, up to the first arrow
abbrev pub leading_tokens : List Part → List Item
leading_tokens [] = []
leading_tokens (p ∷ ps) = leading_by (token_at p) (symbol_at p) (leading_tokens ps)

abbrev pub block_by : Option Params → Span → List Part → Built
block_by None span parts = block_over span (list_of list.Procedure parts)
block_by (Some params) span parts = lambda_over span params (list_of list.Procedure (drop params.count parts))

-- the block that these are between braces with this span; none where they begin with `case`
abbrev pub block_of : Span → List Part → Option Built
block_of span parts =
    if begins_with_case parts then None else Some (block_by (head_of (leading_tokens parts)) span parts)
