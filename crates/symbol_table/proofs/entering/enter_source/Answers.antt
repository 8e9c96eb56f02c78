use Rattle.std.proofs.Common.{◌+◌, refl, sym, subst, ◌∙◌}
use Rattle.symbol_table.specs.declared.walking.Entering.{Entering}
use Rattle.symbol_table.specs.Sources.{HasEntered}
use Rattle.symbol_table.specs.Tables.{source_of}
use Rattle.symbol_table.proofs.SourceEntered.{source_entered, source_told}
use Rattle.symbol_table.proofs.entering.enter_source.Goals as goal

pub returns-clause-entered : goal.returns-clause-entered
returns-clause-entered c = λ sources here before.
    let source = source_of c.args.loaded.now in
    let old = c.args.entering.now in
    let mid : Entering = record old { definitions = c.open_packages.new.definitions } in
    let new = c.enter_kids.new.self in (
      subst (λ (e : Entering). HasEntered sources (c.args.file + 1) e.definitions.found.items e.qualifiers) (sym c.take_told.ensures.left)
          (source_entered sources c.args.file source here old mid new c.in_ok-innermost.innermost c.in_ok-innermost.ensures.opened before
          c.requires.kept c.in_ok-innermost.ensures.kept c.in_ok-enter_kids.ensures.kept c.in_ok-enter_kids.ensures.entered refl),
      c.take_told.ensures.taken
          ∙ source_told sources c.args.file source here old mid new c.in_ok-innermost.innermost c.in_ok-innermost.ensures.opened before
          c.requires.kept c.in_ok-innermost.ensures.kept c.in_ok-enter_kids.ensures.kept c.in_ok-enter_kids.ensures.entered c.requires.told,
    )
