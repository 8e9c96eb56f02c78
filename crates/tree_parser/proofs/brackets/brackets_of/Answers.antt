use Rattle.std.proofs.Common.{◌≡◌, max, [], true, false, ap, sym, ◌∙◌, get_or, map, arith}
use Rattle.std.proofs.lemmas.List.{length-map}
use Rattle.source_grammar.specs.Brackets.{role, closes_wrongly, most_open}
use Rattle.source_grammar.specs.Lexemes.{lexeme_of}
use Rattle.tree_parser.specs.Bracketed.{all_opened, bracketed_by, opened_in}
use Rattle.tree_parser.proofs.Roles.{passed_wrongly, passed_unmatched, passed_open}
use Rattle.tree_parser.proofs.brackets.brackets_of.Goals as goal

pub returns-then-not-branch : goal.returns-then-not-branch
returns-then-not-branch c =
    let wrong : closes_wrongly (role (lexeme_of c.args.text.now (get_or c.args.tokens.now c.loop-token.token-index _))) (all_opened c.loop-token.opened) ≡ true =
    grind (arith, c.in_ok-passes.ensures.fits, c.if-not-branch.true) in
    ap (λ u. bracketed_by u (most_open [] (map (lexeme_of c.args.text.now) c.args.tokens.now)))
    (sym (passed_wrongly c.args.text.now c.args.tokens.now c.loop-token.token-index _ (all_opened c.loop-token.opened) c.loop-token-test.true wrong)
    ∙ c.loop-token.invariant.0)

pub loop-token-preserved : goal.loop-token-preserved
loop-token-preserved c =
    let right : closes_wrongly (role (lexeme_of c.args.text.now (get_or c.args.tokens.now c.loop-token.token-index _))) (all_opened c.loop-token.opened) ≡ false =
    grind (arith, c.in_ok-passes.ensures.fits, c.if-not-branch.false) in
    let most = passed_open c.args.text.now c.args.tokens.now c.loop-token.token-index _ (all_opened c.loop-token.opened) (all_opened c.passes.new.opened)
    c.loop-token-test.true c.in_ok-passes.ensures.behind in
    let many = length-map c.loop-token.opened opened_in in (
      sym (passed_unmatched c.args.text.now c.args.tokens.now c.loop-token.token-index _ (all_opened c.loop-token.opened) (all_opened c.passes.new.opened)
          c.loop-token-test.true right c.in_ok-passes.ensures.behind)
          ∙ c.loop-token.invariant.0,
      omega (arith, c.greater-most.ensures, c.len.ensures, many, most, c.loop-token.invariant.1),
    )
