use Rattle.std.proofs.Common.{◌≡◌, ◌-◌, ap, sym, ◌∙◌, map, take, drop, length, arith}
use Rattle.source_grammar.specs.Lexemes.{lexeme_of}
use Rattle.tree_parser.specs.Plain.{braces_from}
use Rattle.tree_parser.proofs.Behind.{rest_cut}
use Rattle.tree_parser.proofs.PlainBraces.{plain_first}
use Rattle.tree_parser.proofs.plain.plain_braces.Goals as goal

pub loop-token-init : goal.loop-token-init
loop-token-init c =
    let text = c.args.text.now in
    let tokens = c.args.tokens.now in (
      c.plain_begun-levels.ensures.words text,
      ap (λ ls. braces_from ls (map (lexeme_of text) (take (length tokens - 1) (drop 1 tokens)))) (c.plain_begun-levels.ensures.is text)
          ∙ sym (plain_first text tokens _ c.args.opening (omega (arith, c.in-len1-up.len_at_least))),
    )

pub plain_step-requires-clause-cut : goal.plain_step-requires-clause-cut
plain_step-requires-clause-cut c = rest_cut c.args.text.now c.args.tokens.now 1 c.requires c.loop-token.token-index _ c.loop-token-test.true
