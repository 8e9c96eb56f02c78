use Rattle.std.proofs.Common.{take}
use Rattle.script_text.specs.Known.{Knows}
use Rattle.script_text.proofs.texts.known_texts.Given as goal

-- the texts of the sources so far are known
abbrev pub invariant-loop-source : goal.invariant-loop-source
invariant-loop-source l = Knows l.known (take l.source-index l.sources)
