use Rattle.std.proofs.Common.{◌+◌, ap, map, drop, sym, refl, ◌∙◌}
use Rattle.std.specs.Option.{option_map}
use Rattle.reading_machines.specs.Parts.{anything}
use Rattle.source_grammar.specs.Lexemes.{lexeme_of}
use Rattle.parse_exprs.specs.Levels.{levels_in, reader}
use Rattle.parse_exprs.proofs.Holding.{begun-items}
use Rattle.parse_exprs.proofs.Loops.{begins-at, goes_on}
use Rattle.parse_exprs.proofs.Reaching.{next-token, whole-in}
use Rattle.parse_exprs.proofs.reader.read.Goals as goal

pub loop-token-init : goal.loop-token-init
loop-token-init c = record {
  count = refl;
  words = begun-items c.args.text.now c.begun-levels.result (c.begun-levels.ensures c.args.text.now);
  leads = begins-at reader anything (map (lexeme_of c.args.text.now) c.args.tokens.now) _ (sym (c.begun-levels.ensures c.args.text.now));
}

pub loop-token-preserved : goal.loop-token-preserved
loop-token-preserved c =
    let text = c.args.text.now in
    let at = c.loop-token.token-index in
    record {
      count = ap (λ n. n + 1) c.loop-token.invariant.count;
      words = c.in_ok-next.ensures.items c.in-Some.next c.in-Some.is;
      leads = goes_on reader anything (map (lexeme_of text) c.args.tokens.now) (map (lexeme_of text) (drop at c.args.tokens.now))
          (map (lexeme_of text) (drop (at + 1) c.args.tokens.now)) c.loop-token.reached c.loop-token.best c.noted-best.result
          (levels_in text c.loop-token.levels) (levels_in text c.in-Some.next) _ c.loop-token.invariant.leads
          (next-token (lexeme_of text) c.args.tokens.now at _ c.loop-token-test.true)
          (whole-in text c.loop-token.levels c.loop-token.best c.noted-best.result c.loop-token.reached c.is_whole.result c.is_whole.ensures c.noted-best.ensures)
          (sym c.in_ok-next.ensures.is ∙ ap (option_map (levels_in text)) c.in-Some.is);
    }
