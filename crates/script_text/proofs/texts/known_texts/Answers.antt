use Rattle.std.proofs.Common.{◌<◌, length, subst, sym, take, arith, List}
use Rattle.script_text.specs.Words.{Bytes}
use Rattle.script_text.specs.Known.{Knows}
use Rattle.script_text.proofs.TextLemmas.{take_one_more}
use Rattle.script_text.proofs.texts.known_texts.Goals as goal

pub loop-source-preserved : goal.loop-source-preserved
loop-source-preserved c =
    let i = c.loop-source.source-index in
    let sources = c.args.sources.now in
    let within : i < length sources = omega arith in
    subst (λ (known : List (Bytes × Bytes)). Knows c.keep_first.new.known known) (sym (take_one_more sources i c.source-item.result within c.source-item.is))
    (c.in_ok-keep_first.ensures (take i sources) c.loop-source.invariant)
