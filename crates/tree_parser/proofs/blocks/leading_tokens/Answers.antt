use Rattle.std.proofs.Common.{◌≡◌, ◌+◌, ◌++◌, ◌∷◌, [], Some, drop, ap, sym, ◌∙◌, subst}
use Rattle.std.specs.List.{All}
use Rattle.std.specs.Option.{option_map}
use Rattle.source_grammar.specs.Lexemes.{lexeme_of}
use Rattle.parse_exprs.specs.Cases.{is_arrow}
use Rattle.parse_exprs.specs.Items.{IsItemOf, items_in}
use Rattle.template_steps.specs.Pieces.{IsPieceOf, part_in, parts_in, symbol_at}
use Rattle.tree_parser.specs.Blocks.{leading_tokens, token_at}
use Rattle.tree_parser.proofs.Leading.{led_on, token_leads, words_behind}
use Rattle.tree_parser.proofs.blocks.leading_tokens.Goals as goal

pub returns-then-is_arrow-clause-words : goal.returns-then-is_arrow-clause-words
returns-then-is_arrow-clause-words c =
    let text = c.args.text.now in
    let piece = c.piece-item.result in
    let own = subst (IsPieceOf text) (sym c.piece-item.is) (c.requires c.loop-piece.piece-index piece c.loop-piece-test.true) in
    words_behind text c.loop-piece.items c.push.new.self c.in-Some.token c.in_ok-push.ensures.ok c.loop-piece.invariant.0 (c.token_of.ensures.words text own c.in-Some.token c.in-Some.is)

pub loop-piece-preserved : goal.loop-piece-preserved
loop-piece-preserved c =
    let text = c.args.text.now in
    let pieces = c.args.pieces.now in
    let at = c.loop-piece.piece-index in
    let piece = c.piece-item.result in
    let items = c.loop-piece.items in
    let token = c.in-Some.token in
    let ps = parts_in text (drop (at + 1) pieces) in
    let own = subst (IsPieceOf text) (sym c.piece-item.is) (c.requires at piece c.loop-piece-test.true) in
    let is : Some (lexeme_of text token) ≡ token_at (part_in text piece) = ap (option_map (lexeme_of text)) (sym c.in-Some.is) ∙ c.token_of.ensures.is text in
    let arrow = ap is_arrow (sym c.symbol_in.ensures) ∙ sym c.is_arrow.ensures ∙ c.if-is_arrow.false in (
      words_behind text items c.push.new.self token c.in_ok-push.ensures.ok c.loop-piece.invariant.0 (c.token_of.ensures.words text own token c.in-Some.is),
      ap (λ l. items_in text l ++ leading_tokens ps) c.in_ok-push.ensures.ok
          ∙ token_leads text items token (part_in text piece) ps is arrow
          ∙ ap (λ p. items_in text items ++ Rattle.tree_parser.specs.Blocks.leading_by (token_at (part_in text p)) (symbol_at (part_in text p)) (leading_tokens ps)) c.piece-item.is
          ∙ ap (λ l. items_in text items ++ l) (sym (led_on text pieces at piece c.loop-piece-test.true))
          ∙ c.loop-piece.invariant.1,
    )
