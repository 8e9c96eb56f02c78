use Rattle.client_scripts.proofs.Below.{below_wait, below_cancel}
use Rattle.client_scripts.proofs.laws.law_waits_come_first.Goals as goal

pub returns-clause-waits : goal.returns-clause-waits
returns-clause-waits c = λ n k lines above below line journal before behind t tag call. below_wait n lines above below line journal before behind t tag call k

pub returns-clause-cancels : goal.returns-clause-cancels
returns-clause-cancels c = λ n k lines above below line journal before behind t tag call. below_cancel n lines above below line journal before behind t tag call k
