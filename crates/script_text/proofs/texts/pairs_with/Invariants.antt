use Rattle.std.proofs.Common.{◌≡◌, map}
use Rattle.script_text.specs.Texts.{pair_with}
use Rattle.script_text.proofs.texts.pairs_with.Given as goal

abbrev pub invariant-loop-name : goal.invariant-loop-name
invariant-loop-name l = l.with_texts ≡ map (pair_with l.sources) l.yielded
