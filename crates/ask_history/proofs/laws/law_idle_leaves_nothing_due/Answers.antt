use Rattle.std.proofs.Common.{length}
use Rattle.std.proofs.Math.Nat.{le_refl}
use Rattle.ask_history.specs.Checks.{due}
use Rattle.ask_history.proofs.Idles.{checks_end}
use Rattle.ask_history.proofs.laws.law_idle_leaves_nothing_due.Goals as goal

pub returns : goal.returns
returns c = λ journal. checks_end (length (due journal)) journal (le_refl (length (due journal)))
