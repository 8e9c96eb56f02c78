use Rattle.std.proofs.Common.{◌<◌, ◌≤◌, ◌+◌, count_by, length, take_all, ◌∙◌, ap, arith}
use Rattle.script_text.specs.Standing.{is_call_line}
use Rattle.session_input.specs.Sources.{lines_in}
use Rattle.session_input.proofs.ScriptLemmas.{calls_in_scripts-more, calls_fit}
use Rattle.session_input.proofs.counts.count_all_calls.Goals as goal

pub overflow_add-calls : goal.overflow_add-calls
overflow_add-calls c =
    let scripts = c.args.scripts.now in
    let i = c.loop-script.script-index in
    let script = c.script-item.result in
    let within : i < length scripts = omega arith in
    let own = rw c.as_slice.ensures at c.count_calls-calls.ensures in
    omega (arith, calls_in_scripts-more scripts i script within c.script-item.is, calls_fit scripts (i + 1), own, c.loop-script.invariant, c.requires)

pub loop-script-preserved : goal.loop-script-preserved
loop-script-preserved c =
    let scripts = c.args.scripts.now in
    let i = c.loop-script.script-index in
    let script = c.script-item.result in
    let within : i < length scripts = omega arith in
    let own = rw c.as_slice.ensures at c.count_calls-calls.ensures in
    omega (arith, calls_in_scripts-more scripts i script within c.script-item.is, own, c.loop-script.invariant)
