use Rattle.std.proofs.Common.{sym, ◌∙◌, arith}
use Rattle.std.proofs.lemmas.Grind.{common_steps}
use Rattle.script_text.proofs.TextLemmas.{knows-new, knows-kept}
use Rattle.script_text.proofs.texts.keep_first.Goals as goal

pub returns-then-contains_key : goal.returns-then-contains_key
returns-then-contains_key c = λ before knows. knows-kept c.args.known.now before c.args.source.now knows (sym c.contains_key.ensures ∙ c.if-contains_key.true)

pub returns : goal.returns
returns c = λ before knows.
    knows-new c.args.known.now c.insert.new.self before c.args.source.now knows (sym c.contains_key.ensures ∙ c.if-contains_key.false)
    (λ other. grind (arith, common_steps, c.in_ok-insert.ensures.updates, c.in_ok-clone.ensures, c.in_ok-clone-2.ensures))
