use Rattle.std.proofs.Common.{◌≡◌, ◌++◌, ◌∷◌, [], length, ap, subst, ◌∙◌, rules}
use Rattle.std.proofs.lemmas.Result.{on_ok_weaker}
use Rattle.symbol_table.specs.Sources.{EntersSource}
use Rattle.symbol_table.specs.Tables.{source_of}
use Rattle.symbol_table.proofs.SourcesEntered.{source_added}
use Rattle.symbol_table.proofs.entering.add_source.Goals as goal

pub returns : goal.returns
returns c =
    let old = c.args.all.now in
    let place : c.in_ok-file.file ≡ length old.names = search rules in
    on_ok_weaker c.push-2.result (λ e sources here before.
    let turn = subst (λ n. EntersSource n (source_of c.args.loaded.now) old.entering c.enter_source.new.entering c.in_ok-problems.problems) place c.in_ok-problems.ensures.entered in
    let both = turn sources here before.entered in
    source_added sources (source_of c.args.loaded.now) (length old.names) old
    (record { entering = c.enter_source.new.entering; names = c.push-2.new.self; problems = c.push.new.self })
    c.in_ok-problems.problems here before c.in_ok-problems.ensures.kept c.in_ok-problems.ensures.told both.0 both.1
    (e ∙ ap (λ name. old.names ++ name ∷ []) c.in_ok-clone.ensures.cases) (search rules)) c.push-2.ensures.ok
