use Rattle.std.proofs.Common.{rules, ap, ◌∙◌}
use Rattle.std.proofs.lemmas.Result.{on_ok_weaker}
use Rattle.pc_terms.specs.declared.symbols.SymKind.TheVariants as symbol
use Rattle.symbol_table.specs.Found.{defined}
use Rattle.symbol_table.proofs.OpeningOne.{Opens-seen, Opens-defined}
use Rattle.symbol_table.proofs.packages.open.Goals as goal

pub returns-in-Some-clause-opened : goal.returns-in-Some-clause-opened
returns-in-Some-clause-opened c =
    Opens-seen c.args.definitions.now.found.items c.args.outer c.args.file c.args.node c.args.name.now c.requires.owned c.requires.kept.next c.requires.kept.apart
    c.in-Some.seen (search rules)

pub returns-in-None-clause-opened : goal.returns-in-None-clause-opened
returns-in-None-clause-opened c =
    let found = c.args.definitions.now.found.items in
    let name = c.args.name.now in
    Opens-defined found c.args.outer c.args.file c.args.node name c.requires.owned c.requires.kept.next c.requires.kept.apart
    c.define.result c.define.new.self.found.items (search rules) c.define.ensures.number
    (on_ok_weaker c.define.result (λ e. e ∙ ap (λ flags. defined found c.args.outer symbol.Package name.text (record {
      file = c.args.file;
      node = c.args.node;
      label_span = name.span;
      flags = flags;
    })) c.plain_flags.ensures) c.define.ensures.found)
