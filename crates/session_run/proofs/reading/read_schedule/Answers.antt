use Rattle.std.proofs.Common.{List, Ok, Err, subst}
use Rattle.pc_terms.specs.Bytes.{Bytes}
use Rattle.ask_history.specs.declared.script.Line.{Line}
use Rattle.session_input.specs.Input.{schedule_reading}
use Rattle.session_input.specs.Reads.{ComesTo}
use Rattle.session_input.specs.declared.refusal.NoInput.TheVariants.{Refused}
use Rattle.session_run.proofs.SessionLemmas.{can_play_all}
use Rattle.session_run.proofs.reading.read_schedule.Goals as goal

pub returns-in-Ok-read_schedule_input-clause-input : goal.returns-in-Ok-read_schedule_input-clause-input
returns-in-Ok-read_schedule_input-clause-input g c =
    subst (λ (name : Bytes). ComesTo (g.F.Files.content c.args.files.now) (schedule_reading name) (Ok c.in-Ok-read_schedule_input.lines)) c.in-Ok.ensures c.in-Ok-read_schedule_input.ensures.comes

pub returns-in-Ok-read_schedule_input-clause-can : goal.returns-in-Ok-read_schedule_input-clause-can
returns-in-Ok-read_schedule_input-clause-can g c =
    can_play_all c.in-Ok-read_schedule_input.lines c.in-Ok-read_schedule_input.ensures.names c.in-Ok-read_schedule_input.ensures.few

pub returns-in-Err-Refused-clause-input : goal.returns-in-Err-Refused-clause-input
returns-in-Err-Refused-clause-input g c =
    subst (λ (name : Bytes). ComesTo {A = List Line} (g.F.Files.content c.args.files.now) (schedule_reading name) (Err (Refused c.in-Err-Refused.why))) c.in-Ok.ensures (rw c.in-Err-Refused.field-0-is at c.in-Err-Refused.ensures.comes)
