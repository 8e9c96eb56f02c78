use Rattle.std.proofs.Common.{◌≡◌, drop, map, ap, sym, ◌∙◌, arith}
use Rattle.source_grammar.specs.Lexemes.{lexeme_of}
use Rattle.tree_parser.specs.Levels.{levels_in, steps}
use Rattle.tree_parser.proofs.Stepping.{stepped_on, stepped_all}
use Rattle.tree_parser.proofs.units.pieces_behind.Goals as goal

pub loop-at-init : goal.loop-at-init
loop-at-init c =
    let text = c.args.text.now in
    let xs = map (lexeme_of text) c.args.tokens.now in (
      c.begun-levels.ensures.words text,
      ap (λ ls. steps xs ls c.args.start (drop c.args.start xs)) (c.begun-levels.ensures.is text),
    )

pub loop-at-preserved : goal.loop-at-preserved
loop-at-preserved c = (
  c.in_ok-levels.ensures.words,
  sym (stepped_on c.args.text.now c.args.tokens.now c.loop-at.at _ (levels_in c.args.text.now c.loop-at.levels) (levels_in c.args.text.now c.in_ok-levels.levels)
      c.loop-at-test.true c.in_ok-levels.ensures.is)
      ∙ c.loop-at.invariant.1,
)
