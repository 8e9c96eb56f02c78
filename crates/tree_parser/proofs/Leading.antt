-- The tokens that a block begins with, one piece after another.
use Rattle.std.proofs.Common.{◌≡◌, ℕ, ◌+◌, ◌<◌, false, if◌then◌else◌, List, [], ◌∷◌, ◌++◌, length, get_or, drop, drop-cons, add-one, Some, None, refl, sym, ap, ◌∙◌}
use Rattle.std.specs.List.{All}
use Rattle.std.proofs.lemmas.List.{drop-map}
use Rattle.std.proofs.lemmas.List.Elements.{All-push, All-same}
use Rattle.pc_terms.specs.declared.problems.Span.{Span}
use Rattle.scan_tokens.specs.Words.{Bytes}
use Rattle.scan_tokens.specs.declared.tokens.Token.{Token}
use Rattle.source_grammar.specs.Lexemes.{lexeme_of}
use Rattle.expr_steps.specs.Reading.{Item, OneToken}
use Rattle.parse_exprs.specs.Cases.{is_arrow}
use Rattle.parse_exprs.specs.Contents.{head_of, lambda_over}
use Rattle.parse_exprs.specs.Items.{IsItemOf, item_in, items_in}
use Rattle.parse_exprs.specs.declared.contents.Params.{Params}
use Rattle.parse_exprs.specs.declared.items.Item.{Item as Written}
use Rattle.parse_exprs.specs.declared.items.Item.TheVariants as written
use Rattle.template_steps.specs.Pieces.{Part, part_in, parts_in, symbol_at}
use Rattle.template_steps.specs.Statements.{list_of}
use Rattle.template_steps.specs.declared.statements.ListKind.TheVariants as list
use Rattle.template_steps.specs.declared.pieces.Piece.{Piece}
use Rattle.tree_parser.specs.Blocks.{begins_with_case, block_by, block_of, leading_by, leading_tokens, token_at}

pub led_on : (text : Bytes) (pieces : List Piece) (at : ℕ) (d : Piece) → at < length pieces
    → leading_tokens (parts_in text (drop at pieces))
    ≡ leading_by (token_at (part_in text (get_or pieces at d))) (symbol_at (part_in text (get_or pieces at d))) (leading_tokens (parts_in text (drop (at + 1) pieces)))
led_on text pieces at d below =
    ap (λ l. leading_tokens (parts_in text l)) (drop-cons pieces at d below)
    ∙ ap (λ n. leading_by (token_at (part_in text (get_or pieces at d))) (symbol_at (part_in text (get_or pieces at d))) (leading_tokens (parts_in text (drop n pieces)))) (sym (add-one at))

item_behind : (text : Bytes) (items : List Written) (token : Token) (rest : List Item)
    → items_in text (items ++ written.Token token ∷ []) ++ rest ≡ items_in text items ++ OneToken (lexeme_of text token) ∷ rest
item_behind text [] token rest = refl
item_behind text (i ∷ is) token rest = ap (λ l. item_in text i ∷ l) (item_behind text is token rest)

pub words_behind : (text : Bytes) (items now : List Written) (token : Token) → now ≡ items ++ written.Token token ∷ []
    → All (IsItemOf text) items → IsItemOf text (written.Token token) → All (IsItemOf text) now
words_behind text items now token is all own =
    All-same (IsItemOf text) now (items ++ written.Token token ∷ []) is (All-push (IsItemOf text) items (written.Token token) all own)

-- a token that is no arrow leads on
pub token_leads : (text : Bytes) (items : List Written) (token : Token) (p : Part) (ps : List Part)
    → Some (lexeme_of text token) ≡ token_at p → is_arrow (symbol_at p) ≡ false
    → items_in text (items ++ written.Token token ∷ []) ++ leading_tokens ps ≡ items_in text items ++ leading_by (token_at p) (symbol_at p) (leading_tokens ps)
token_leads text items token p ps is arrow =
    item_behind text items token (leading_tokens ps)
    ∙ ap (λ b. items_in text items ++ OneToken (lexeme_of text token) ∷ (if b then [] else leading_tokens ps)) (sym arrow)
    ∙ ap (λ o. items_in text items ++ leading_by o (symbol_at p) (leading_tokens ps)) is

-- a block behind the head of a lambda
pub lambda_block : (text : Bytes) (span : Span) (pieces : List Piece) (params : Params)
    → begins_with_case (parts_in text pieces) ≡ false → head_of (leading_tokens (parts_in text pieces)) ≡ Some params
    → block_of span (parts_in text pieces) ≡ Some (lambda_over span params (list_of list.Procedure (parts_in text (drop params.count pieces))))
lambda_block text span pieces params case head =
    ap (λ b. if b then None else Some (block_by (head_of (leading_tokens (parts_in text pieces))) span (parts_in text pieces))) case
    ∙ ap (λ o. Some (block_by o span (parts_in text pieces))) head
    ∙ ap (λ l. Some (lambda_over span params (list_of list.Procedure l))) (drop-map (part_in text) params.count pieces)
