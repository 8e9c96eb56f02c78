use Rattle.script_text.specs.declared.kinds.ScriptKind.TheVariants as kind
use Rattle.script_text.proofs.GrammarLemmas.{refused_from_reading}
use Rattle.script_text.proofs.reading.read_schedule.Goals as goal

pub returns-in-Err-clause-refused : goal.returns-in-Err-clause-refused
returns-in-Err-clause-refused c =
    refused_from_reading kind.Schedule c.args.text.now (λ lines. lines) c.in-Err.refused c.in-Err.ensures.reading
