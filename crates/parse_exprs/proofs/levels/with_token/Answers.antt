use Rattle.parse_exprs.specs.declared.items.Item.TheVariants as written
use Rattle.parse_exprs.specs.Levels.{AreLevelsOf}
use Rattle.parse_exprs.proofs.Holding.{more-items, of-some}
use Rattle.parse_exprs.proofs.levels.with_token.Goals as goal

pub returns-clause-items : goal.returns-clause-items
returns-clause-items c =
    of-some (AreLevelsOf c.args.text.now) _ (record {
      current = more-items c.args.text.now c.args.levels.current.items c.push.new.self (written.Token c.args.token) c.requires.words.current c.requires.cut c.in_ok-push.ensures.ok;
      around = c.requires.words.around;
    })
