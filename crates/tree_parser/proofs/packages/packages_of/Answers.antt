use Rattle.std.proofs.Common.{◌≡◌, suc, ◌+◌, ◌-◌, ap, sym, ◌∙◌, map, length, arith}
use Rattle.std.proofs.lemmas.List.{length-map}
use Rattle.source_grammar.specs.Lexemes.{lexeme_of}
use Rattle.parse_parts.specs.Built.{joined, no_kids}
use Rattle.tree_parser.specs.Packaged.{packages_by}
use Rattle.tree_parser.proofs.Clauses.{none_more, one_more}
use Rattle.tree_parser.proofs.packages.packages_of.Goals as goal

pub returns-in-None-clause-is : goal.returns-in-None-clause-is
returns-in-None-clause-is c =
    let all = map (lexeme_of c.args.text.now) c.args.tokens.now in
    let more : length c.args.tokens.now - c.loop-count._count ≡ suc (length c.args.tokens.now - (c.loop-count._count + 1)) = omega (arith, c.loop-count-test.true) in
    sym (none_more (length c.args.tokens.now - (c.loop-count._count + 1)) all c.loop-count.at c.loop-count.kids (sym c.in_ok-clause.ensures.is ∙ c.in-None.is))
    ∙ ap (λ n. packages_by n all c.loop-count.at c.loop-count.kids) (sym more)
    ∙ c.loop-count.invariant.1
    ∙ ap (λ n. packages_by n all 0 no_kids) (sym (length-map c.args.tokens.now (lexeme_of c.args.text.now)))

pub loop-count-preserved : goal.loop-count-preserved
loop-count-preserved c =
    let all = map (lexeme_of c.args.text.now) c.args.tokens.now in
    let left = length c.args.tokens.now - (c.loop-count._count + 1) in
    let more : length c.args.tokens.now - c.loop-count._count ≡ suc left = omega (arith, c.loop-count-test.true) in (
      c.behind_clause-at.ensures.within,
      (λ i. packages_by left all (c.behind_clause-at.ensures.is i) ((c.in_ok-kids-in-Some.ensures ∙ ap (joined c.loop-count.kids) c.in_ok-package_tree-in-Some.ensures) i))
          ∙ sym (one_more left all c.loop-count.at c.loop-count.kids c.in-Some.clause (sym c.in_ok-clause.ensures.is ∙ c.in-Some.is))
          ∙ ap (λ n. packages_by n all c.loop-count.at c.loop-count.kids) (sym more)
          ∙ c.loop-count.invariant.1,
    )
