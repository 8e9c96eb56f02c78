use Rattle.std.proofs.Common.{rules}
use Rattle.symbol_table.proofs.Keeping.{Kept-push}
use Rattle.symbol_table.proofs.definitions.Definitions.define.Goals as goal

pub returns-clause-kept : goal.returns-clause-kept
returns-clause-kept c =
    Kept-push c.args.self.now c.args.owner c.args.kind c.args.name.now c.requires.kept c.push.new.self (search rules) c.args.standing c.in-Some.ordinal c.requires.owned (search rules) (search rules)
