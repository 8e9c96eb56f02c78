use Rattle.std.proofs.Common.{◌∙◌, sym}
use Rattle.source_grammar.specs.Lexemes.{lexeme_of}
use Rattle.parse_exprs.specs.declared.items.Item.TheVariants as written
use Rattle.parse_exprs.specs.Levels.{AreLevelsOf}
use Rattle.parse_exprs.proofs.Holding.{closed-levels, left-around, more-items, of-some, outer-items}
use Rattle.parse_exprs.proofs.levels.curly_closed.Goals as goal

pub returns-clause-is : goal.returns-clause-is
unfolding lexeme_of
returns-clause-is c =
    closed-levels c.args.text.now c.args.levels.current c.in-Some.outer c.in_ok-current.current c.args.levels.around c.pop.new.self c.in_ok-braces.braces
    c.args.token.span.end (sym c.may_close.ensures ∙ c.if-not-may_close.false) c.in-Some.ensures c.in_ok-braces.ensures (c.in_ok-current.ensures.is c.args.text.now)

pub returns-clause-items : goal.returns-clause-items
returns-clause-items c =
    let text = c.args.text.now in
    let outer = c.in-Some.outer in
    of-some (AreLevelsOf text) (record { current = c.in_ok-current.current; around = c.pop.new.self }) (record {
      current = more-items text outer.items c.in_ok-current.current.items (written.Braces c.in_ok-braces.braces)
          (outer-items text c.args.levels.around c.pop.new.self outer c.requires.around c.in-Some.ensures) tt c.in_ok-current.ensures.items;
      around = left-around text c.args.levels.around c.pop.new.self outer c.requires.around c.in-Some.ensures;
    })
