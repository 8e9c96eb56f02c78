use Rattle.std.proofs.Common.{◌≡◌, map}
use Rattle.script_text.specs.Texts.{script_with}
use Rattle.script_text.proofs.texts.all_with_texts.Given as goal

abbrev pub invariant-loop-script : goal.invariant-loop-script
invariant-loop-script l = l.all ≡ map (script_with l.sources) l.yielded
