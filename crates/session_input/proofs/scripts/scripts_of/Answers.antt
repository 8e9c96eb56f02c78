use Rattle.std.proofs.Common.{inl, refl, ◌+◌, ◌<◌, ◌≤◌, length, drop, take_all, arith}
use Rattle.script_text.proofs.TextLemmas.{take_one_more}
use Rattle.session_input.proofs.SourceLemmas.{leads-more, ends-more, ends-before, split_at_item, led, ended}
use Rattle.session_input.proofs.scripts.scripts_of.Goals as goal

pub returns-in-Err : goal.returns-in-Err
returns-in-Err c = λ content.
    let texts = c.args.texts.now in
    let i = c.loop-named.named-index in
    let within : i < length texts = omega arith in
    ended (split_at_item texts i c.named-item.result within c.named-item.is)
    (ends-before (drop (i + 1) texts) (ends-more (c.loop-named.invariant content) (c.in-Err.ensures content)))

pub loop-named-preserved : goal.loop-named-preserved
loop-named-preserved c = λ content.
    let texts = c.args.texts.now in
    let i = c.loop-named.named-index in
    let within : i < length texts = omega arith in
    rw (take_one_more texts i c.named-item.result within c.named-item.is) (leads-more (c.loop-named.invariant content) (c.in-Ok.ensures content))

pub returns : goal.returns
returns c = λ content.
    let texts = c.args.texts.now in
    let all : length texts ≤ c.loop-named.named-index = omega arith in
    led (inl refl) (take_all c.loop-named.named-index texts all) (c.loop-named.invariant content)
