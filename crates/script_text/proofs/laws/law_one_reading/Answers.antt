use Rattle.script_text.proofs.GrammarLemmas.{one_script, reading_from_bad}
use Rattle.script_text.proofs.laws.law_one_reading.Goals as goal

pub returns-clause-one : goal.returns-clause-one
returns-clause-one c = one_script

pub returns-clause-bad : goal.returns-clause-bad
returns-clause-bad c = reading_from_bad
